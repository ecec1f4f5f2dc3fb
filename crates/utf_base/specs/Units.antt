-- The units of UTF-16 (RFC 2781, section 2): a lone surrogate represents nothing, and a pair a scalar from 0x10000
-- on.
use Rattle.std.specs.Prelude.{◌≡◌, ℕ, ◌+◌, ◌*◌, ◌%◌, Bool, true, false, not, ◌&&◌, nat_lt, nat_le, ◌==◌, if◌then◌else◌, List, [], ◌∷◌, length, slice_index, Option, Some, None, Result, MatchResult}
use Rattle.utf_base.specs.declared.errors.units.Utf16FirstUnitError.{Utf16FirstUnitError}
use Rattle.utf_base.specs.declared.errors.units.Utf16SliceError.{Utf16SliceError}
use Rattle.utf_base.specs.declared.errors.units.Utf16SliceError.TheVariants as slice
use Rattle.utf_base.specs.declared.errors.units.Utf16ArrayError.{Utf16ArrayError}
use Rattle.utf_base.specs.declared.errors.units.Utf16ArrayError.TheVariants as array
use Rattle.utf_base.specs.declared.errors.units.Utf16TupleError.{Utf16TupleError}
use Rattle.utf_base.specs.declared.errors.units.Utf16TupleError.TheVariants as tuple
use Rattle.utf_base.specs.declared.errors.units.Utf16PairError.{Utf16PairError}
use Rattle.utf_base.specs.declared.errors.units.Utf16PairError.TheVariants as pair

-- the unit begins a pair, ends one, does either
abbrev pub is_leading_surrogate : ℕ → Bool
is_leading_surrogate u = nat_le 0xD800 u && nat_lt u 0xDC00

abbrev pub is_trailing_surrogate : ℕ → Bool
is_trailing_surrogate u = nat_le 0xDC00 u && nat_lt u 0xE000

abbrev pub is_surrogate : ℕ → Bool
is_surrogate u = nat_le 0xD800 u && nat_lt u 0xE000

-- the scalar of a pair: ten bits of each unit, above 0x10000 (RFC 2781, section 2.2)
abbrev pub pair_value : ℕ → ℕ → ℕ
pair_value u v = 0x1_0000 + u % 1024 * 1024 + v % 1024

-- the scalar of the pair that begins the units, or of only the first
unfoldable pub unit_value : List ℕ → ℕ
unit_value w =
    if is_leading_surrogate (slice_index w 0) then pair_value (slice_index w 0) (slice_index w 1) else slice_index w 0

-- the scalar of one unit, or of two as those of a pair, whatever they are
abbrev pub tuple_value : ℕ → Option ℕ → ℕ
tuple_value u None = u
tuple_value u (Some v) = pair_value u v

-- whether the unit begins a pair, or an error if it ends one
abbrev pub NeedsExtraUnit : ℕ → Result Bool Utf16FirstUnitError → Type 0
NeedsExtraUnit u r =
    MatchResult r
    (λ more. (is_trailing_surrogate u ≡ false) × (more ≡ is_leading_surrogate u))
    (λ _. is_trailing_surrogate u ≡ true)

-- the units of a pair with an optional second
abbrev pub units_of_pair : ℕ → Option ℕ → List ℕ
units_of_pair u None = u ∷ []
units_of_pair u (Some v) = u ∷ v ∷ []

-- two units are a code, followed by 0 if it has one unit: a unit that is no surrogate and 0, or a pair
abbrev pub is_padded_units : ℕ → ℕ → Bool
is_padded_units u v = if is_leading_surrogate u then is_trailing_surrogate v else not (is_trailing_surrogate u) && v == 0

-- The fault of units that no code begins, or `None` if one does: the first case that applies.

-- the fault of units, from the errors for no units, for a trailing surrogate at the front, for a leading one without
-- a second unit, and for a second that does not complete the pair
abbrev pub units_fault : {E : Type 0} → E → E → E → E → List ℕ → Option E
units_fault empty trailing alone unmatched w =
    if length w == 0 then Some empty
    else if is_trailing_surrogate (slice_index w 0) then Some trailing
    else if not (is_leading_surrogate (slice_index w 0)) then None
    else if length w == 1 then Some alone
    else if not (is_trailing_surrogate (slice_index w 1)) then Some unmatched
    else None

unfoldable pub slice_fault : List ℕ → Option Utf16SliceError
slice_fault = units_fault slice.EmptySlice slice.FirstIsTrailingSurrogate slice.MissingSecond slice.SecondIsNotTrailingSurrogate

-- the fault of two units, the second of which may be unused
unfoldable pub array_fault : ℕ → ℕ → Option Utf16ArrayError
array_fault u v =
    if is_trailing_surrogate u then Some array.FirstIsTrailingSurrogate
    else if not (is_leading_surrogate u) then None
    else if not (is_trailing_surrogate v) then Some array.SecondIsNotTrailingSurrogate
    else None

-- the fault of one or two units that have to be a code
abbrev pub second_fault : ℕ → Option ℕ → Option Utf16TupleError
second_fault u None = if is_leading_surrogate u then Some tuple.MissingSecond else None
second_fault u (Some v) =
    if not (is_leading_surrogate u) then Some tuple.SuperfluousSecond
    else if not (is_trailing_surrogate v) then Some tuple.SecondIsNotTrailingSurrogate
    else None

abbrev pub tuple_fault : ℕ → Option ℕ → Option Utf16TupleError
tuple_fault u second = if is_trailing_surrogate u then Some tuple.FirstIsTrailingSurrogate else second_fault u second

-- the forward kind of units, which a decoder of many units returns
unfoldable pub unit_fault_kind : List ℕ → Option Utf16PairError
unit_fault_kind = units_fault pair.Incomplete pair.UnexpectedTrailingSurrogate pair.Incomplete pair.UnmatchedLeadingSurrogate

-- the backward kind of a surrogate that no code ends with: the fault of that unit as a list of its own
unfoldable pub unit_back_kind : ℕ → Utf16PairError
unit_back_kind u = if is_trailing_surrogate u then pair.UnexpectedTrailingSurrogate else pair.Incomplete
