-- The result of a decoder of units, as a function of the units.
use Rattle.std.proofs.Common.{◌≡◌, ℕ, List, Some, Ok, Err, refl, sym}
use Rattle.utf_base.specs.declared.errors.units.Utf16PairError.{Utf16PairError}
use Rattle.utf_base.specs.declared.errors.units.Utf16SliceError.{Utf16SliceError}
use Rattle.utf_base.specs.Back.{decoded_pairs_end, decoded_units_end}
use Rattle.utf_base.specs.Code.{utf16}
use Rattle.utf_base.specs.Decoded.{decoded_pairs}
use Rattle.utf_base.specs.Ends.{last_of, EndsWith}
use Rattle.utf_base.specs.Front.{BeginsWith}
use Rattle.utf_base.specs.Units.{unit_back_kind, unit_fault_kind}
use Rattle.utf_base.proofs.DecodedLemmas.{decoded_pairs_code, decoded_pairs_kind}
use Rattle.utf_base.proofs.UnitEnds.{decoded_pairs_end_code, decoded_pairs_end_fault}
use Rattle.encode_unicode.specs.Window.{as_piece}

pub known_char : (w : List ℕ) (s n : ℕ) → BeginsWith utf16 w s n → (Ok s, n) ≡ as_piece (decoded_pairs w)
known_char w s n h = rw (decoded_pairs_code w s h.0, h.1) refl

pub known_fault : (w : List ℕ) (k : Utf16PairError) → unit_fault_kind w ≡ Some k → (Err k, 1) ≡ as_piece (decoded_pairs w)
known_fault w k h = rw (decoded_pairs_kind w k h) refl

-- The result of a decoder of units from the end, as a function of the units.

pub known_end_char : (w : List ℕ) (s n : ℕ) → EndsWith utf16 w s n → (Ok s, n) ≡ as_piece (decoded_pairs_end w)
known_end_char w s n h = rw (decoded_pairs_end_code w s n h) refl

pub known_end_fault : (w : List ℕ) (e : Utf16SliceError) (k : Utf16PairError) → Err e ≡ decoded_units_end w → k ≡ unit_back_kind (last_of w) → (Err k, 1) ≡ as_piece (decoded_pairs_end w)
known_end_fault w e k h is = rw (decoded_pairs_end_fault w e (sym h), is) refl
