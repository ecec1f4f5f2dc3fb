-- The laws of the faults of a list that no code begins.
use Rattle.std.specs.Prelude.{◌≡◌, ℕ, ◌<◌, ◌≤◌, List, length, take, Some, None, true, false, [], ◌∷◌}
use Rattle.utf_base.specs.declared.errors.Utf8ErrorKind.TheVariants.{TooFewBytes, InterruptedSequence}
use Rattle.utf_base.specs.Scalar.{IsUnits}
use Rattle.utf_base.specs.Code.{utf8, utf16}
use Rattle.utf_base.specs.Kinds.{asked_by, fault_kind, is_broken, merger_kind, value, back_kind}
use Rattle.utf_base.specs.Ends.{last_of, EndsWith, NoCodeEnds}
use Rattle.utf_base.specs.Piece.{Stands}
use Rattle.utf_base.specs.Units.{is_surrogate, slice_fault, unit_back_kind, unit_fault_kind, unit_value}

-- bytes have no fault if and only if a code begins them, which is that of their value
pub record CodeOrOneFault : Type 0 where
  pub code : (w : List ℕ) → fault_kind w ≡ None → Stands utf8 w 0 (value w)
  pub fault : (w : List ℕ) (s : ℕ) → Stands utf8 w 0 s → fault_kind w ≡ None

-- bytes have no kind of a merger if and only if a code begins them
pub record MergerCodeOrOneFault : Type 0 where
  pub code : (w : List ℕ) → merger_kind w ≡ None → Stands utf8 w 0 (value w)
  pub fault : (w : List ℕ) (s : ℕ) → Stands utf8 w 0 s → merger_kind w ≡ None

-- units have no fault, as a slice of them, if and only if a code begins them
pub record UnitsCodeOrOneFault : Type 0 where
  pub code : (w : List ℕ) → IsUnits w → slice_fault w ≡ None → Stands utf16 w 0 (unit_value w)
  pub fault : (w : List ℕ) (s : ℕ) → Stands utf16 w 0 s → slice_fault w ≡ None

-- units have no forward kind if and only if a code begins them
pub record UnitsCodeOrOneKind : Type 0 where
  pub code : (w : List ℕ) → IsUnits w → unit_fault_kind w ≡ None → Stands utf16 w 0 (unit_value w)
  pub fault : (w : List ℕ) (s : ℕ) → Stands utf16 w 0 s → unit_fault_kind w ≡ None

-- the forward kind depends only on the first four bytes
abbrev pub FourBytesDecide : Type 0
FourBytesDecide = (w : List ℕ) → fault_kind (take 4 w) ≡ fault_kind w

-- the kind of a merger depends only on the first four bytes
abbrev pub FourBytesDecideMerger : Type 0
FourBytesDecideMerger = (w : List ℕ) → merger_kind (take 4 w) ≡ merger_kind w

-- decoder and merger give the same fault, unless fewer bytes are left than the first asks for and one of them breaks
-- the code
pub record KindsDiffer : Type 0 where
  pub enough : (w : List ℕ) → asked_by w ≤ length w → merger_kind w ≡ fault_kind w
  pub unbroken : (w : List ℕ) → is_broken w ≡ false → merger_kind w ≡ fault_kind w
  pub decoder : (w : List ℕ) → length w < asked_by w → is_broken w ≡ true → fault_kind w ≡ Some TooFewBytes
  pub merger : (w : List ℕ) → length w < asked_by w → is_broken w ≡ true → merger_kind w ≡ Some InterruptedSequence
  pub few : (w : List ℕ) → length w < asked_by w → length w ≤ 3

-- the forward kind of units depends only on the first two
abbrev pub TwoUnitsDecide : Type 0
TwoUnitsDecide = (w : List ℕ) → unit_fault_kind (take 2 w) ≡ unit_fault_kind w

-- a last byte below 0x80 is the code that ends the bytes, and one that no code ends with has its backward kind, which
-- is the forward kind of that byte as a list of its own
pub record CodeOrLastByte : Type 0 where
  pub code : (w : List ℕ) → 0 < length w → last_of w < 0x80 → EndsWith utf8 w (last_of w) 1
  pub fault : (w : List ℕ) → 0 < length w → NoCodeEnds utf8 w → (0x80 ≤ last_of w) × (fault_kind (last_of w ∷ []) ≡ Some (back_kind (last_of w)))

-- a last unit that is no surrogate is the code that ends the units, and one that no code ends with is a surrogate,
-- whose backward kind is the forward kind of that unit as a list of its own
pub record UnitsCodeOrLastUnit : Type 0 where
  pub code : (w : List ℕ) → IsUnits w → 0 < length w → is_surrogate (last_of w) ≡ false → EndsWith utf16 w (last_of w) 1
  pub fault : (w : List ℕ) → IsUnits w → 0 < length w → NoCodeEnds utf16 w → (is_surrogate (last_of w) ≡ true) × (unit_fault_kind (last_of w ∷ []) ≡ Some (unit_back_kind (last_of w)))
