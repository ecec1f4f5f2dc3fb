-- The first fault of bytes that are UTF-16.
use Rattle.std.proofs.Common.{◌≡◌, ℕ, ◌+◌, ◌*◌, ◌/◌, ◌<◌, ◌≤◌, ⊎_elim, Bool, List, [], ◌∷◌, length, get_or, take, drop, arith, refl, Some, length-drop}
use Rattle.std.proofs.lemmas.Bool.{cases_lt}
use Rattle.std.proofs.lemmas.List.{take_rest}
use Rattle.utf_base.specs.Code.{utf16}
use Rattle.utf_base.specs.Front.{BeginsWith, NoneBegins}
use Rattle.utf_base.specs.Piece.{Stands}
use Rattle.utf_base.specs.Units.{slice_fault}
use Rattle.utf_base.specs.declared.errors.units.Utf16SliceError.{Utf16SliceError}
use Rattle.utf_base.proofs.Cuts.{front_fault}
use Rattle.utf_base.proofs.Standing.{outside_end, stands_in_part, stands_in_whole}
use Rattle.utf_base.proofs.UnitLemmas.{no_units_where_fault}
use Rattle.utf_base.proofs.Utf16Code.{utf16_is_code, length_utf16}
use Rattle.utf_lanes.specs.BytePairs.{units_of, unit_of}
use Rattle.utf_lanes.specs.UnitBlocks.{AreCodes}
use Rattle.recoding.proofs.JoinedShards.{even_units}
use Rattle.text_runs.specs.WellFormed.{IsFirstFault, BeginsUnits, NoUnitsBegin, IsFirstUnitFault}
use Rattle.recoding.proofs.FirstFaults.{IsGoodTo, good_all, good_units}
use Rattle.recoding.proofs.GoodCodes.{good_front_codes}

-- The piece that begins the bytes.

one_unit : (high : Bool) (w : List ℕ) → 2 ≤ length w → length w < 4 → units_of high w ≡ unit_of high (get_or w 0 0) (get_or w 1 0) ∷ []
one_unit high [] some few = absurd (omega arith)
one_unit high (a ∷ []) some few = absurd (omega arith)
one_unit high (a ∷ b ∷ []) some few = refl
one_unit high (a ∷ b ∷ c ∷ []) some few = refl
one_unit high (a ∷ b ∷ c ∷ d ∷ w) some few = absurd (omega arith)

two_units : (high : Bool) (w : List ℕ) → 4 ≤ length w
    → (ys : List ℕ) × (units_of high w ≡ unit_of high (get_or w 0 0) (get_or w 1 0) ∷ unit_of high (get_or w 2 0) (get_or w 3 0) ∷ ys)
two_units high [] h = absurd (omega arith)
two_units high (a ∷ []) h = absurd (omega arith)
two_units high (a ∷ b ∷ []) h = absurd (omega arith)
two_units high (a ∷ b ∷ c ∷ []) h = absurd (omega arith)
two_units high (a ∷ b ∷ c ∷ d ∷ w) h = (units_of high w, refl)

-- two units decide the piece that begins a list of them
front_of_two : (u v : ℕ) (ys : List ℕ) (s : ℕ) → Stands utf16 (u ∷ v ∷ []) 0 s → Stands utf16 (u ∷ v ∷ ys) 0 s
front_of_two u v ys s h = (stands_in_whole utf16 (u ∷ v ∷ ys) 0 2 0 0 s refl (omega arith) (omega arith) h).0

in_two : (u v : ℕ) (ys : List ℕ) (s : ℕ) → Stands utf16 (u ∷ v ∷ ys) 0 s → Stands utf16 (u ∷ v ∷ []) 0 s
in_two u v ys s h =
    let most = length_utf16 s in
    stands_in_part utf16 (u ∷ v ∷ ys) 0 2 0 0 s refl (omega arith) h (omega arith)

module _ (high : Bool) (w : List ℕ) where
  pub none_begins : (k : Utf16SliceError) → 2 ≤ length w → length w < 4 → slice_fault (unit_of high (get_or w 0 0) (get_or w 1 0) ∷ []) ≡ Some k → NoUnitsBegin high w
  none_begins k some few e _ = rw (one_unit high w some few) (λ s h. no_units_where_fault _ k s e h)

  pub two_begin : (s n : ℕ) → 4 ≤ length w → BeginsWith utf16 (unit_of high (get_or w 0 0) (get_or w 1 0) ∷ unit_of high (get_or w 2 0) (get_or w 3 0) ∷ []) s n → BeginsUnits high w (2 * n)
  two_begin s n four (h, e) =
      let within = h.within in
      let some = utf16_is_code.some s h.scalar in
      let half : 2 * n / 2 ≡ n = omega arith in
      let two = two_units high w four in
      record {
        char = s;
        begins = rw (two.1, half) (front_of_two _ _ two.0 s h, e);
        even = omega arith;
        within = omega arith;
        least = omega arith;
      }

  pub none_begins_two : (k : Utf16SliceError) → 4 ≤ length w → slice_fault (unit_of high (get_or w 0 0) (get_or w 1 0) ∷ unit_of high (get_or w 2 0) (get_or w 3 0) ∷ []) ≡ Some k → NoUnitsBegin high w
  none_begins_two k four e _ = let two = two_units high w four in rw two.1 (λ s h. no_units_where_fault _ k s e (in_two _ _ two.0 s h))

-- The length of the well-formed front of bytes.

pub count_units : (high : Bool) (bytes : List ℕ) → (2 * length (units_of high bytes) ≤ length bytes) × (length bytes ≤ 2 * length (units_of high bytes) + 1)
count_units high [] = (omega arith, omega arith)
count_units high (a ∷ []) = (omega arith, omega arith)
count_units high (a ∷ b ∷ v) = let rest = count_units high v in (omega (arith, rest.0), omega (arith, rest.1))

good_where_none : (xs : List ℕ) (i : ℕ) → IsGoodTo utf16 xs i → i < length xs → NoneBegins utf16 (drop i xs) → IsFirstFault utf16 xs i
good_where_none xs i g lt none =
    let f = front_fault utf16 xs i (length xs) g.outside (outside_end utf16 xs) lt (omega arith) (λ s h. none s (rw (take_rest xs i) at h)) in
    record { within = g.within; none = g.none; fault = λ _. f.0 }

-- no fault begins before the offset, which is that of a unit
pub record IsGoodToUnit (high : Bool) (bytes : List ℕ) (n : ℕ) : Type 0 where
  pub within : n ≤ length bytes
  pub even : n ≡ 2 * (n / 2)
  pub good : IsGoodTo utf16 (units_of high bytes) (n / 2)

-- codes have no fault
pub good_unit_codes : (high : Bool) (bytes : List ℕ) (k : ℕ) → 2 * k ≤ length bytes → AreCodes (units_of high (take (2 * k) bytes)) → IsGoodToUnit high bytes (2 * k)
good_unit_codes high bytes k within codes =
    let half : 2 * k / 2 ≡ k = omega arith in
    let count = count_units high bytes in
    let front = (even_units high bytes (2 * k) k within refl).0 in
    record {
      within = within;
      even = omega arith;
      good = rw half (good_front_codes (units_of high bytes) k (omega (arith, count.1)) (rw front at codes));
    }

pub good_unit_step : (high : Bool) (bytes : List ℕ) (i n : ℕ) → IsGoodToUnit high bytes i → BeginsUnits high (drop i bytes) n → IsGoodToUnit high bytes (i + n)
good_unit_step high bytes i n g b =
    let here = g.within in
    let even = g.even in
    let more = b.even in
    let within = b.within in
    let units = (even_units high bytes i (i / 2) here even).1 in
    let sum : (i + n) / 2 ≡ i / 2 + n / 2 = omega arith in
    record {
      within = omega (arith, length-drop i bytes);
      even = omega arith;
      good = rw sum (good_units (units_of high bytes) (i / 2) b.char (n / 2) g.good (rw units at b.begins));
    }

pub good_unit_all : (high : Bool) (bytes : List ℕ) (i : ℕ) → IsGoodToUnit high bytes i → NoUnitsBegin high (drop i bytes) → IsFirstUnitFault high bytes i
good_unit_all high bytes i g none =
    let here = g.within in
    let even = g.even in
    let count = count_units high bytes in
    let units = (even_units high bytes i (i / 2) here even).1 in
    record {
      within = here;
      even = even;
      first =
          ⊎_elim
          (λ (lt : i / 2 < length (units_of high bytes)).
          let begins = none (omega (arith, length-drop i bytes, count.0)) in
          good_where_none (units_of high bytes) (i / 2) g.good lt (rw units at begins))
          (λ (le : length (units_of high bytes) ≤ i / 2). good_all utf16 (units_of high bytes) (i / 2) g.good le)
          (cases_lt (i / 2) (length (units_of high bytes)));
    }
