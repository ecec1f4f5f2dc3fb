-- The result of each decoding, as a function of only the elements: two calls on the same elements return the same,
-- and the code of a scalar decodes to that scalar. `Front` specifies these results.
use Rattle.std.specs.Prelude.{◌≡◌, ℕ, if◌then◌else◌, List, length, slice_index, Option, Some, None, Result, Ok, Err, MatchResult}
use Rattle.utf_base.specs.declared.errors.Utf8ErrorKind.{Utf8ErrorKind}
use Rattle.utf_base.specs.declared.errors.scalars.CodepointError.{CodepointError}
use Rattle.utf_base.specs.declared.errors.units.Utf16SliceError.{Utf16SliceError}
use Rattle.utf_base.specs.declared.errors.units.Utf16ArrayError.{Utf16ArrayError}
use Rattle.utf_base.specs.declared.errors.units.Utf16TupleError.{Utf16TupleError}
use Rattle.utf_base.specs.declared.errors.units.Utf16PairError.{Utf16PairError}
use Rattle.utf_base.specs.Kinds.{asked_by, value, fault_kind}
use Rattle.utf_base.specs.Refused.{number_fault}
use Rattle.utf_base.specs.Units.{is_leading_surrogate, unit_value, tuple_value, slice_fault, array_fault, tuple_fault, unit_fault_kind}

-- the result if there is no fault, otherwise the fault
abbrev pub unless_fault : {A E : Type 0} → Option E → A → Result A E
unless_fault None x = Ok x
unless_fault (Some e) x = Err e

-- the scalar whose code begins the bytes, with the code's length, otherwise their forward kind
unfoldable pub decoded : List ℕ → Result (ℕ × ℕ) Utf8ErrorKind
decoded w = unless_fault (fault_kind w) (value w, asked_by w)

-- the scalar whose code begins the bytes, without the code's length, otherwise their forward kind
unfoldable pub decoded_bytes : List ℕ → Result ℕ Utf8ErrorKind
decoded_bytes w = unless_fault (fault_kind w) (value w)

-- the length in units of a code that begins with this one
abbrev pub units_asked : ℕ → ℕ
units_asked u = if is_leading_surrogate u then 2 else 1

-- the scalar whose code begins the units, with the code's length, otherwise their fault as a slice
unfoldable pub decoded_units : List ℕ → Result (ℕ × ℕ) Utf16SliceError
decoded_units w = unless_fault (slice_fault w) (unit_value w, units_asked (slice_index w 0))

-- the scalar whose code begins the units, with the code's length, otherwise their forward kind
unfoldable pub decoded_pairs : List ℕ → Result (ℕ × ℕ) Utf16PairError
decoded_pairs w = unless_fault (unit_fault_kind w) (unit_value w, units_asked (slice_index w 0))

-- the scalar whose code begins the two units, the second of which may be unused
unfoldable pub decoded_two : List ℕ → Result ℕ Utf16ArrayError
decoded_two w = unless_fault (array_fault (slice_index w 0) (slice_index w 1)) (unit_value w)

-- the scalar whose code the one or two units are
unfoldable pub decoded_tuple : ℕ → Option ℕ → Result ℕ Utf16TupleError
decoded_tuple u second = unless_fault (tuple_fault u second) (tuple_value u second)

-- the number, if it is a scalar
unfoldable pub decoded_number : ℕ → Result ℕ CodepointError
decoded_number n = unless_fault (number_fault n) n

-- A decoding returns the known result; `scalar` is the function from a character to its scalar.

abbrev pub GivesChar : {C E : Type 0} → (C → ℕ) → Result ℕ E → Result C E → Type 0
GivesChar scalar known r = MatchResult r (λ c. known ≡ Ok (scalar c)) (λ e. known ≡ Err e)

abbrev pub GivesFirst : {C E : Type 0} → (C → ℕ) → Result (ℕ × ℕ) E → Result (C × ℕ) E → Type 0
GivesFirst scalar known r = MatchResult r (λ x. known ≡ Ok (scalar x.0, x.1)) (λ e. known ≡ Err e)

-- the bytes are the code of a scalar, and nothing more
abbrev pub DecodesWhole : List ℕ → Type 0
DecodesWhole w = MatchResult (decoded w) (λ x. x.1 ≡ length w) (λ _. ⊥)
