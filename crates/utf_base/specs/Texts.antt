-- The texts of the errors, as bytes of ASCII.
use Rattle.std.specs.Prelude.{ℕ, List, codes}
use Rattle.utf_base.specs.declared.errors.scalars.CodepointError.{CodepointError}
use Rattle.utf_base.specs.declared.errors.scalars.CodepointError.TheVariants as codepoint
use Rattle.utf_base.specs.declared.errors.scalars.FromStrError.{FromStrError}
use Rattle.utf_base.specs.declared.errors.scalars.FromStrError.TheVariants as from_str
use Rattle.utf_base.specs.declared.errors.units.Utf16ArrayError.{Utf16ArrayError}
use Rattle.utf_base.specs.declared.errors.units.Utf16ArrayError.TheVariants as array
use Rattle.utf_base.specs.declared.errors.units.Utf16TupleError.{Utf16TupleError}
use Rattle.utf_base.specs.declared.errors.units.Utf16TupleError.TheVariants as tuple
use Rattle.utf_base.specs.declared.errors.units.Utf16SliceError.{Utf16SliceError}
use Rattle.utf_base.specs.declared.errors.units.Utf16SliceError.TheVariants as slice
use Rattle.utf_base.specs.declared.errors.units.Utf16PairError.{Utf16PairError}
use Rattle.utf_base.specs.declared.errors.units.Utf16PairError.TheVariants as pair
use Rattle.utf_base.specs.declared.errors.Utf8ErrorKind.{Utf8ErrorKind}
use Rattle.utf_base.specs.declared.errors.Utf8ErrorKind.TheVariants as kind

-- a unit that cannot come first
abbrev pub first_unit_error_text : List ℕ
first_unit_error_text = codes "is a trailing surrogate"

-- a character outside ASCII
abbrev pub non_ascii_error_text : List ℕ
non_ascii_error_text = codes "not an ASCII character"

-- a character outside the basic multilingual plane
abbrev pub non_bmp_error_text : List ℕ
non_bmp_error_text = codes "not a codepoint in the basic multilingual plane"

-- a text with no character to read
abbrev pub empty_str_error_text : List ℕ
empty_str_error_text = codes "is empty"

-- a number that is no scalar
abbrev pub codepoint_error_text : CodepointError → List ℕ
codepoint_error_text codepoint.Utf16Reserved = codes "is reserved for UTF-16 surrogate pairs"
codepoint_error_text codepoint.TooHigh = codes "is higher than the highest codepoint"

-- a text that is not one character
abbrev pub from_str_error_text : FromStrError → List ℕ
from_str_error_text from_str.MultipleCodepoints = codes "contains more than one codepoint"
from_str_error_text from_str.Empty = codes "is empty"

-- two units in an array
abbrev pub array_error_text : Utf16ArrayError → List ℕ
array_error_text array.FirstIsTrailingSurrogate = codes "the first element is a trailing surrogate"
array_error_text array.SecondIsNotTrailingSurrogate =
    codes "the second element is needed but is not a trailing surrogate"

-- a unit with or without a second
abbrev pub tuple_error_text : Utf16TupleError → List ℕ
tuple_error_text tuple.FirstIsTrailingSurrogate = codes "the first unit is a trailing surrogate"
tuple_error_text tuple.SuperfluousSecond = codes "the second unit is superfluous"
tuple_error_text tuple.MissingSecond = codes "the first unit requires a second unit"
tuple_error_text tuple.SecondIsNotTrailingSurrogate =
    codes "the required second unit is not a trailing surrogate"

-- the front of a slice of units
abbrev pub slice_error_text : Utf16SliceError → List ℕ
slice_error_text slice.EmptySlice = codes "the slice is empty"
slice_error_text slice.FirstIsTrailingSurrogate = codes "the first unit is a trailing surrogate"
slice_error_text slice.MissingSecond = codes "the first and only unit requires a second one"
slice_error_text slice.SecondIsNotTrailingSurrogate =
    codes "the required second unit is not a trailing surrogate"

-- a run of units
abbrev pub pair_error_text : Utf16PairError → List ℕ
pair_error_text pair.UnexpectedTrailingSurrogate =
    codes "a trailing surrogate was not preceeded by a leading surrogate"
pair_error_text pair.UnmatchedLeadingSurrogate =
    codes "a leading surrogate was followed by an unit that was not a trailing surrogate"
pair_error_text pair.Incomplete =
    codes "a trailing surrogate was expected when the end was reached"

-- bytes that are no UTF-8; some kinds share a text
abbrev pub utf8_error_text : Utf8ErrorKind → List ℕ
utf8_error_text kind.TooFewBytes = codes "too few bytes"
utf8_error_text kind.NonUtf8Byte = codes "not UTF-8"
utf8_error_text kind.UnexpectedContinuationByte = codes "not UTF-8"
utf8_error_text kind.InterruptedSequence = codes "not UTF-8"
utf8_error_text kind.OverlongEncoding = codes "malformed input"
utf8_error_text kind.Utf16ReservedCodepoint = codes "malformed input"
utf8_error_text kind.TooHighCodepoint = codes "invalid character"
