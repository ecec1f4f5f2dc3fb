-- The last offset before another that no code covers.
use Rattle.std.proofs.Common.{◌≡◌, ℕ, ◌+◌, ◌-◌, ◌*◌, ◌/◌, ◌%◌, ◌<◌, ◌≤◌, ⊎_elim, Bool, List, [], ◌∷◌, ◌++◌, length, get_or, drop, arith, refl}
use Rattle.std.proofs.lemmas.Bool.{cases_lt}
use Rattle.std.proofs.lemmas.List.{take_rest}
use Rattle.std.specs.Prelude.{Some}
use Rattle.utf_base.specs.Units.{slice_fault}
use Rattle.utf_base.specs.declared.errors.units.Utf16SliceError.{Utf16SliceError}
use Rattle.utf_base.specs.Code.{IsCode, utf8, utf16}
use Rattle.utf_base.specs.Front.{BeginsWith}
use Rattle.utf_base.specs.Piece.{Stands, Inside}
use Rattle.utf_base.proofs.UnitLemmas.{no_units_where_fault}
use Rattle.utf_base.proofs.Standing.{not_inside, outside_end, same_char, stands_in_part, stands_in_whole}
use Rattle.utf_base.proofs.Utf8Code.{utf8_is_code, length_utf8}
use Rattle.utf_base.proofs.Utf16Code.{utf16_is_code, length_utf16}
use Rattle.recoding.specs.declared.form.Form.{Form}
use Rattle.recoding.proofs.Forms.{by_form, is_units}
use Rattle.utf_lanes.specs.BytePairs.{units_of, unit_of}
use Rattle.recoding.specs.Boundaries.{IsBoundary, IsLastTo, IsLastOutside, IsLastUnitsEnd, IsUnitsEnd, LiesOver}
use Rattle.recoding.proofs.JoinedShards.{even_units, units_within}

-- A list and its rest.

pub stands_in_rest : (code : ℕ → List ℕ) (xs : List ℕ) (i s : ℕ) → Stands code xs i s → Stands code (drop i xs) 0 s
stands_in_rest code xs i s h =
    let within = h.within in
    rw (take_rest xs i) at (stands_in_part code xs i (length xs) 0 i s (omega arith) (omega arith) h within)

pub stands_in_list : (code : ℕ → List ℕ) (xs : List ℕ) (i s : ℕ) → i ≤ length xs → Stands code (drop i xs) 0 s → Stands code xs i s
stands_in_list code xs i s le h = (stands_in_whole code xs i (length xs) 0 i s (omega arith) le (omega arith) (rw (take_rest xs i) h)).0

-- If no code covers an offset it is the last itself.
last_here : (code : ℕ → List ℕ) (xs : List ℕ) (at : ℕ) → (Inside code xs at → ⊥) → IsLastOutside code xs at at
last_here code xs at out = record { before = omega arith; outside = out; last = λ m le h. le }

-- Otherwise it is the front of the code that covers it.
last_before : (code : ℕ → List ℕ) → IsCode code → (xs : List ℕ) (n at : ℕ) → n < at → LiesOver code xs n at → IsLastOutside code xs at n
last_before code c xs n at lt over =
    let ends = over.ends in
    record {
      before = omega arith;
      outside = not_inside code c xs n over.char over.stands;
      last = λ m le out.
          ⊎_elim
          (λ (later : n < m). absurd (out (record { from = n; char = over.char; stands = over.stands; begins = later; ends = omega arith })))
          (λ (early : m ≤ n). early)
          (cases_lt n m);
    }

-- Bytes.

-- no code that begins at an offset from the first on, and before the second, covers `at`
abbrev pub NoneOver : List ℕ → ℕ → ℕ → ℕ → Type 0
NoneOver xs least place at = (p s : ℕ) → least ≤ p → p < place → Stands utf8 xs p s → p + length (utf8 s) ≤ at

pub utf8_not_over : (xs : List ℕ) (p at s n : ℕ) → BeginsWith utf8 (drop p xs) s n → p + n ≤ at → (t : ℕ) → Stands utf8 xs p t → p + length (utf8 t) ≤ at
utf8_not_over xs p at s n (h, e) le t g =
    let same : t ≡ s = same_char utf8 utf8_is_code (drop p xs) 0 t s (stands_in_rest utf8 xs p t g) h in
    rw same (omega arith)

pub utf8_last_before : (xs : List ℕ) (n at : ℕ) → n < at → LiesOver utf8 xs n at → IsLastOutside utf8 xs at n
utf8_last_before = last_before utf8 utf8_is_code

pub utf8_last_here : (xs : List ℕ) (least at : ℕ) → least ≡ at - 3 → NoneOver xs least at at → IsLastOutside utf8 xs at at
utf8_last_here xs least at near none =
    last_here utf8 xs at
    (λ v.
    let begins = v.begins in
    let long = length_utf8 v.char in
    let fits = none v.from v.char (omega arith) begins v.stands in
    omega arith)

-- Two units.

two_units : (high : Bool) (w : List ℕ) → 4 ≤ length w
    → (ys : List ℕ) × (units_of high w ≡ (unit_of high (get_or w 0 0) (get_or w 1 0) ∷ unit_of high (get_or w 2 0) (get_or w 3 0) ∷ []) ++ ys)
two_units high [] h = absurd (omega arith)
two_units high (a ∷ []) h = absurd (omega arith)
two_units high (a ∷ b ∷ []) h = absurd (omega arith)
two_units high (a ∷ b ∷ c ∷ []) h = absurd (omega arith)
two_units high (a ∷ b ∷ c ∷ d ∷ w) h = (units_of high w, refl)

-- the code that begins a list of two units and more begins the two
in_two : (u v : ℕ) (ys : List ℕ) (s : ℕ) → Stands utf16 ((u ∷ v ∷ []) ++ ys) 0 s → Stands utf16 (u ∷ v ∷ []) 0 s
in_two u v ys s h =
    let most = length_utf16 s in
    stands_in_part utf16 ((u ∷ v ∷ []) ++ ys) 0 2 0 0 s refl (omega arith) h (omega arith)

module _ (high : Bool) (w : List ℕ) (four : 4 ≤ length w) where
  pub no_pair : (s n : ℕ) → BeginsWith utf16 (unit_of high (get_or w 0 0) (get_or w 1 0) ∷ unit_of high (get_or w 2 0) (get_or w 3 0) ∷ []) s n → n ≤ 1
      → (t : ℕ) → Stands utf16 (units_of high w) 0 t → length (utf16 t) ≤ 1
  no_pair s n (h, e) le t g =
      let two = two_units high w four in
      let same : t ≡ s = same_char utf16 utf16_is_code _ 0 t s (in_two _ _ two.0 t (rw two.1 at g)) h in
      rw same (omega arith)

  pub no_pair_at_fault : (k : Utf16SliceError) → slice_fault (unit_of high (get_or w 0 0) (get_or w 1 0) ∷ unit_of high (get_or w 2 0) (get_or w 3 0) ∷ []) ≡ Some k
      → (t : ℕ) → Stands utf16 (units_of high w) 0 t → length (utf16 t) ≤ 1
  no_pair_at_fault k e t g =
      let two = two_units high w four in
      absurd (no_units_where_fault _ k t e (in_two _ _ two.0 t (rw two.1 at g)))

-- The offset at whole units, if a pair covers it and if none does.
module _ (high : Bool) (bytes : List ℕ) (at n : ℕ) (lt : at < length bytes) (whole : n ≡ at - at % 2) where
  units_last : (k j : ℕ) → n ≡ 2 * k → j ≤ k → IsLastOutside utf16 (units_of high bytes) k j → IsLastUnitsEnd high bytes at (2 * j)
  units_last k j e le l = record {
    before = omega arith;
    outside = record { even = λ within. omega arith; outside = let half : 2 * j / 2 ≡ j = omega arith in rw half l.outside };
    last = λ m lo end.
        let even = end.even (omega arith) in
        let half = l.last (m / 2) (omega arith) end.outside in
        omega arith;
  }

  pub end_before_pair : 2 ≤ n → LiesOver utf16 (units_of high (drop (n - 2) bytes)) 0 1 → IsLastUnitsEnd high bytes at (n - 2)
  end_before_pair two over =
      let e : n ≡ 2 * (n / 2) = omega arith in
      let units = (even_units high bytes (n - 2) (n / 2 - 1) (omega arith) (omega arith)).1 in
      let front : Stands utf16 (drop (n / 2 - 1) (units_of high bytes)) 0 over.char = rw units at over.stands in
      let count = units_within high bytes (n - 2) (n / 2 - 1) (omega arith) (omega arith) in
      let ends = over.ends in
      let pair : LiesOver utf16 (units_of high bytes) (n / 2 - 1) (n / 2)
      = record { char = over.char; stands = stands_in_list utf16 (units_of high bytes) (n / 2 - 1) over.char count front; ends = omega arith } in
      let place : 2 * (n / 2 - 1) ≡ n - 2 = omega arith in
      rw place at (units_last (n / 2) (n / 2 - 1) e (omega arith) (last_before utf16 utf16_is_code (units_of high bytes) (n / 2 - 1) (n / 2) (omega arith) pair))

  pub end_of_units : (2 ≤ n → (s : ℕ) → Stands utf16 (units_of high (drop (n - 2) bytes)) 0 s → length (utf16 s) ≤ 1) → IsLastUnitsEnd high bytes at n
  end_of_units none =
      let e : n ≡ 2 * (n / 2) = omega arith in
      let place : 2 * (n / 2) ≡ n = omega arith in
      let out : Inside utf16 (units_of high bytes) (n / 2) → ⊥ = λ v.
      let most = length_utf16 v.char in
      let from : v.from ≡ n / 2 - 1 = omega arith in
      let units = (even_units high bytes (n - 2) (n / 2 - 1) (omega arith) (omega arith)).1 in
      let front : Stands utf16 (units_of high (drop (n - 2) bytes)) 0 v.char = rw units (stands_in_rest utf16 (units_of high bytes) (n / 2 - 1) v.char (rw from at v.stands)) in
      let single = none (omega arith) v.char front in
      omega arith in
      rw place at (units_last (n / 2) (n / 2) e (omega arith) (last_here utf16 (units_of high bytes) (n / 2) out))

-- No code covers the end of the bytes.

few_whole_units : (high : Bool) (bytes : List ℕ) → 2 * length (units_of high bytes) ≤ length bytes
few_whole_units high [] = omega arith
few_whole_units high (a ∷ []) = omega arith
few_whole_units high (a ∷ b ∷ v) = let rest = few_whole_units high v in omega arith

pub units_end_at_end : (high : Bool) (bytes : List ℕ) → IsUnitsEnd high bytes (length bytes)
units_end_at_end high bytes = record {
  even = λ lt. absurd (omega arith);
  outside = λ v. let within = v.stands.within in let ends = v.ends in omega (arith, few_whole_units high bytes);
}

end_at_end : (from : Form) (bytes : List ℕ) → IsBoundary from bytes (length bytes)
end_at_end = by_form _ (outside_end utf8) (λ high. rw (is_units high, IsBoundary) (units_end_at_end high))

pub last_is_end : (from : Form) (bytes : List ℕ) (at : ℕ) → length bytes ≤ at → IsLastTo (IsBoundary from bytes) (length bytes) at (length bytes)
last_is_end from bytes at le = record { within = omega arith; before = le; outside = end_at_end from bytes; last = λ m within before end. within }
