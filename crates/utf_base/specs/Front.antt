-- The result of decoding one character. `scalar` is the function from a character to its scalar.
use Rattle.std.specs.Prelude.{◌≡◌, ℕ, ◌+◌, ◌≤◌, if◌then◌else◌, List, length, slice_index, Option, Some, Result, MatchResult}
use Rattle.utf_base.specs.declared.errors.Utf8ErrorKind.{Utf8ErrorKind}
use Rattle.utf_base.specs.declared.errors.Utf8ErrorKind.TheVariants.{NonUtf8Byte, UnexpectedContinuationByte}
use Rattle.utf_base.specs.declared.errors.scalars.CodepointError.{CodepointError}
use Rattle.utf_base.specs.declared.errors.units.Utf16SliceError.{Utf16SliceError}
use Rattle.utf_base.specs.declared.errors.units.Utf16ArrayError.{Utf16ArrayError}
use Rattle.utf_base.specs.declared.errors.units.Utf16TupleError.{Utf16TupleError}
use Rattle.utf_base.specs.Scalar.{IsScalar}
use Rattle.utf_base.specs.Code.{utf8, utf16}
use Rattle.utf_base.specs.Kinds.{asked, is_continuation, fault_kind}
use Rattle.utf_base.specs.Piece.{Stands}
use Rattle.utf_base.specs.Refused.{number_fault}
use Rattle.utf_base.specs.Units.{units_of_pair, slice_fault, array_fault, tuple_fault}

-- contracts see a character as its scalar
abbrev pub as_scalar : ℕ → ℕ
as_scalar s = s

-- the code of the scalar s begins the list, and n is its length
abbrev pub BeginsWith : (ℕ → List ℕ) → List ℕ → ℕ → ℕ → Type 0
BeginsWith code w s n = Stands code w 0 s × (n ≡ length (code s))

-- no code begins the list
abbrev pub NoneBegins : (ℕ → List ℕ) → List ℕ → Type 0
NoneBegins code w = (s : ℕ) → Stands code w 0 s → ⊥

-- the length of something at the front of the list: at least 1, at most `most`, and no more than the list has
abbrev pub IsFrontLen : ℕ → List ℕ → ℕ → Type 0
IsFrontLen most w n = (1 ≤ n) × (n ≤ most) × (n ≤ length w)

-- the list is the code of a scalar, and nothing more
abbrev pub IsOneCode : (ℕ → List ℕ) → List ℕ → Type 0
IsOneCode code xs = (s : ℕ) × IsScalar s × (xs ≡ code s)

-- the character whose code begins the bytes, with its length, otherwise their fault
abbrev pub DecodesFront : {C : Type 0} → (C → ℕ) → List ℕ → Result (C × ℕ) Utf8ErrorKind → Type 0
DecodesFront scalar w r = MatchResult r (λ x. BeginsWith utf8 w (scalar x.0) x.1) (λ e. fault_kind w ≡ Some e)

-- the character whose code begins the bytes, without its length, otherwise their fault
abbrev pub DecodesBytes : {C : Type 0} → (C → ℕ) → List ℕ → Result C Utf8ErrorKind → Type 0
DecodesBytes scalar w r = MatchResult r (λ c. Stands utf8 w 0 (scalar c)) (λ e. fault_kind w ≡ Some e)

-- the character whose code begins the units, with its length, otherwise their fault
abbrev pub DecodesUnits : {C : Type 0} → (C → ℕ) → List ℕ → Result (C × ℕ) Utf16SliceError → Type 0
DecodesUnits scalar w r = MatchResult r (λ x. BeginsWith utf16 w (scalar x.0) x.1) (λ e. slice_fault w ≡ Some e)

-- the character whose code begins the two units, otherwise their fault
abbrev pub DecodesTwoUnits : {C : Type 0} → (C → ℕ) → List ℕ → Result C Utf16ArrayError → Type 0
DecodesTwoUnits scalar w r =
    MatchResult r
    (λ c. Stands utf16 w 0 (scalar c))
    (λ e. array_fault (slice_index w 0) (slice_index w 1) ≡ Some e)

-- the character whose code the one or two units are, otherwise their fault
abbrev pub DecodesTuple : {C : Type 0} → (C → ℕ) → ℕ × Option ℕ → Result C Utf16TupleError → Type 0
DecodesTuple scalar t r =
    MatchResult r
    (λ c. IsScalar (scalar c) × (units_of_pair t.0 t.1 ≡ utf16 (scalar c)))
    (λ e. tuple_fault t.0 t.1 ≡ Some e)

-- the character that the number is, otherwise why it is none
abbrev pub DecodesNumber : {C : Type 0} → (C → ℕ) → ℕ → Result C CodepointError → Type 0
DecodesNumber scalar n r = MatchResult r (λ c. IsScalar n × (scalar c ≡ n)) (λ e. number_fault n ≡ Some e)

-- the number of bytes that the byte asks for after itself, otherwise its fault as a first byte
abbrev pub AsksForMore : ℕ → Result ℕ Utf8ErrorKind → Type 0
AsksForMore b r =
    MatchResult r
    (λ n. asked b ≡ n + 1)
    (λ e. (asked b ≡ 0) × (e ≡ (if is_continuation b then UnexpectedContinuationByte else NonUtf8Byte)))
