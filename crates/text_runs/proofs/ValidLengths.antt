-- The offset of the first fault, as a term and as a chain finds it.
use Rattle.std.proofs.Common.{◌≡◌, ℕ, zero, suc, ◌+◌, ◌<◌, ◌≤◌, List, [], ◌∷◌, length, drop, Option, Some, None, Ok, Err, Result, ⊎_elim, arith, ap, refl, sym, subst, ◌∙◌, length-drop, is_err, get_or, w16, Fits}
use Rattle.std.proofs.lemmas.Bool.{cases_lt}
use Rattle.std.proofs.lemmas.List.{take_all, drop-drop}
use Rattle.std.proofs.lemmas.List.Elements.{All-drop, All-from_get_or}
use Rattle.std.specs.List.{find}
use Rattle.std.specs.Prelude.{MatchOption, slice_range}
use Rattle.utf_base.specs.Code.{utf8, utf16}
use Rattle.utf_base.specs.Decoded.{decoded, decoded_pairs}
use Rattle.utf_base.specs.Kinds.{fault_kind, value}
use Rattle.utf_base.specs.Scalar.{IsUnits}
use Rattle.utf_base.specs.Units.{unit_fault_kind, unit_value}
use Rattle.utf_base.specs.declared.errors.Utf8ErrorKind.{Utf8ErrorKind}
use Rattle.utf_base.specs.declared.errors.units.Utf16PairError.{Utf16PairError}
use Rattle.utf_base.proofs.DecodedLemmas.{answer_of_bytes, decoded_code, decoded_pairs_code, decoded_pairs_kind}
use Rattle.utf_base.proofs.FrontLemmas.{code_where_no_fault}
use Rattle.utf_base.proofs.UnitLemmas.{units_where_no_kind}
use Rattle.encode_unicode.specs.Pieces.{pieces, pieces_by, unit_pieces}
use Rattle.encode_unicode.specs.Window.{Placed, Item, as_piece}
use Rattle.encode_unicode.proofs.ForCallers.{some_bytes, some_units}
use Rattle.text_runs.specs.WellFormed.{IsFirstFault, valid_len}
use Rattle.recoding.proofs.FirstFaults.{IsGoodTo, good_front, good_bytes, good_units, good_all, first_fault, first_pair_fault}

-- there is one first fault
one_first : (code : ℕ → List ℕ) (xs : List ℕ) (n m : ℕ) → IsFirstFault code xs n → IsFirstFault code xs m → n ≡ m
one_first code xs n m a b = ⊎_elim (λ (lt : n < m). absurd (less n m a b lt)) (λ (le : m ≤ n). ⊎_elim (λ (lt : m < n). absurd (less m n b a lt)) (λ (ge : n ≤ m). omega arith) (cases_lt m n)) (cases_lt n m)
  where
    less : (n m : ℕ) → IsFirstFault code xs n → IsFirstFault code xs m → n < m → ⊥
    less n m a b lt =
        let least = b.none _ (a.fault (omega arith)) refl in
        omega arith

-- what a result at an offset says of the list
abbrev Judged : {E : Type 0} → (ℕ → List ℕ) → List ℕ → ℕ → Result (ℕ × ℕ) E → Type 0
Judged code xs i (Ok x) = IsGoodTo code xs (i + x.1)
Judged code xs i (Err k) = IsFirstFault code xs i

-- the pieces from an offset on, before which there is no fault, determine the first one
record Tells {E : Type 0} (code : ℕ → List ℕ) (xs : List ℕ) (place : ℕ) (items : List (Placed E)) : Type 0 where
  first : IsFirstFault code xs (place + valid_len items)
  found : MatchOption (find (λ x. is_err x.1) items) (length xs ≡ place + valid_len items) (λ x. x.0 ≡ place + valid_len items)

tells_none : {E : Type 0} (code : ℕ → List ℕ) (xs : List ℕ) (place : ℕ) → IsGoodTo code xs place → length xs ≤ place → Tells {E = E} code xs place []
tells_none code xs place g le =
    let same : place ≡ place + 0 = omega arith in
    record { first = subst (IsFirstFault code xs) same (good_all code xs place g le); found = omega arith }

module _ {E : Type 0} (code : ℕ → List ℕ) (answer : List ℕ → Result (ℕ × ℕ) E) (some : (xs : List ℕ) → 1 ≤ (as_piece (answer xs)).1)
    (xs : List ℕ) (judge : (i : ℕ) → IsGoodTo code xs i → i < length xs → Judged code xs i (answer (drop i xs))) where
  tells_more : (n place : ℕ) (ys : List ℕ) (r : Result (ℕ × ℕ) E) → Judged code xs place r
      → ((i : ℕ) → IsGoodTo code xs i → i ≡ place + (as_piece r).1 → Tells code xs i (pieces_by answer n (place + (as_piece r).1) (drop (as_piece r).1 ys)))
      → Tells code xs place ((place, (as_piece r).0, (as_piece r).1) ∷ pieces_by answer n (place + (as_piece r).1) (drop (as_piece r).1 ys))
  tells_more n place ys (Ok x) good next =
      let rest = next (place + x.1) good refl in
      let sum : (k : ℕ) → place + x.1 + k ≡ place + (x.1 + k) = λ k. omega arith in
      record {
        first = subst (IsFirstFault code xs) (sum _) rest.first;
        found = subst (λ k. MatchOption (find (λ y. is_err y.1) (pieces_by answer n (place + x.1) (drop x.1 ys))) (length xs ≡ k) (λ y. y.0 ≡ k)) (sum _) rest.found;
      }
  tells_more n place ys (Err k) first next =
      let same : place ≡ place + 0 = omega arith in
      record { first = subst (IsFirstFault code xs) same first; found = same }

  tells : (n place : ℕ) (ys : List ℕ) → drop place xs ≡ ys → length ys ≤ n → IsGoodTo code xs place → Tells code xs place (pieces_by answer n place ys)
  unfolding pieces_by
  tells zero place ys e le g = let count = ap length e in let all = length-drop place xs in tells_none code xs place g (omega arith)
  tells (suc n) place [] e le g = let count = ap length e in let all = length-drop place xs in tells_none code xs place g (omega arith)
  tells (suc n) place (y ∷ ys) e le g =
      let count = ap length e in
      let all = length-drop place xs in
      let one = some (y ∷ ys) in
      let left = length-drop (as_piece (answer (y ∷ ys))).1 (y ∷ ys) in
      let judged : Judged code xs place (answer (y ∷ ys)) = subst (λ zs. Judged code xs place (answer zs)) e (judge place g (omega arith)) in
      tells_more n place (y ∷ ys) (answer (y ∷ ys)) judged
      (λ i good at. subst (λ j. Tells code xs i (pieces_by answer n j (drop (as_piece (answer (y ∷ ys))).1 (y ∷ ys)))) at
      (tells n i (drop (as_piece (answer (y ∷ ys))).1 (y ∷ ys)) (ap (λ j. drop j xs) at ∙ sym (drop-drop (as_piece (answer (y ∷ ys))).1 place xs) ∙ ap (drop (as_piece (answer (y ∷ ys))).1) e) (omega arith) good))

judge_bytes : (xs : List ℕ) (i : ℕ) → IsGoodTo utf8 xs i → i < length xs → Judged utf8 xs i (decoded (drop i xs))
judge_bytes xs i good lt = by_kind (fault_kind (drop i xs)) refl
  where
    by_kind : (k : Option Utf8ErrorKind) → fault_kind (drop i xs) ≡ k → Judged utf8 xs i (decoded (drop i xs))
    by_kind None e =
        let code = (code_where_no_fault (drop i xs) e).0 in
        subst (Judged utf8 xs i) (sym (decoded_code (drop i xs) (value (drop i xs)) code)) (good_bytes xs i (value (drop i xs)) _ good (code, refl))
    by_kind (Some k) e = subst (Judged utf8 xs i) (answer_of_bytes (drop i xs) (Err k) e) (first_fault xs i k good lt e)

tells_bytes : (xs : List ℕ) → Tells utf8 xs 0 (pieces xs)
tells_bytes xs =
    let all : slice_range xs 0 (length xs) ≡ xs = take_all _ xs (omega arith) in
    tells utf8 decoded some_bytes xs (judge_bytes xs) (length (slice_range xs 0 (length xs))) 0 (slice_range xs 0 (length xs)) (sym all) (omega arith) (good_front utf8 xs)

front_told : (xs : List ℕ) → IsFirstFault utf8 xs (valid_len (pieces xs))
front_told xs = let sum : 0 + valid_len (pieces xs) ≡ valid_len (pieces xs) = omega arith in subst (IsFirstFault utf8 xs) sum (tells_bytes xs).first

judge_units : (xs : List ℕ) → IsUnits xs → (i : ℕ) → IsGoodTo utf16 xs i → i < length xs → Judged utf16 xs i (decoded_pairs (drop i xs))
judge_units xs units i good lt = by_kind (unit_fault_kind (drop i xs)) refl
  where
    by_kind : (k : Option Utf16PairError) → unit_fault_kind (drop i xs) ≡ k → Judged utf16 xs i (decoded_pairs (drop i xs))
    by_kind None e =
        let code = units_where_no_kind (drop i xs) (All-drop (λ u. u < 0x1_0000) i xs units) e in
        subst (Judged utf16 xs i) (sym (decoded_pairs_code (drop i xs) (unit_value (drop i xs)) code)) (good_units xs i (unit_value (drop i xs)) _ good (code, refl))
    by_kind (Some k) e = subst (Judged utf16 xs i) (sym (decoded_pairs_kind (drop i xs) k e)) (first_pair_fault xs i k good lt e)

-- the offset of the first fault of units is a term
pub first_unit_fault_known : (xs : List ℕ) → ((i : ℕ) → Fits w16 (get_or xs i 0)) → (n : ℕ) → IsFirstFault utf16 xs n → n ≡ valid_len (unit_pieces xs)
first_unit_fault_known xs fits n first =
    let units : IsUnits xs = All-from_get_or (λ u. u < 0x1_0000) xs 0 (λ i lt. (fits i).fits) in
    let all : slice_range xs 0 (length xs) ≡ xs = take_all _ xs (omega arith) in
    let told : Tells utf16 xs 0 (unit_pieces xs) = tells utf16 decoded_pairs some_units xs (judge_units xs units) (length (slice_range xs 0 (length xs))) 0 (slice_range xs 0 (length xs)) (sym all) (omega arith) (good_front utf16 xs) in
    let sum : 0 + valid_len (unit_pieces xs) ≡ valid_len (unit_pieces xs) = omega arith in
    one_first utf16 xs n (valid_len (unit_pieces xs)) first (subst (IsFirstFault utf16 xs) sum told.first)

place_told : (xs : List ℕ) → MatchOption (find (λ (x : Item). is_err x.1) (pieces xs)) (length xs ≡ valid_len (pieces xs)) (λ x. x.0 ≡ valid_len (pieces xs))
place_told xs =
    let sum : 0 + valid_len (pieces xs) ≡ valid_len (pieces xs) = omega arith in
    subst (λ k. MatchOption (find (λ (x : Item). is_err x.1) (pieces xs)) (length xs ≡ k) (λ x. x.0 ≡ k)) sum (tells_bytes xs).found

-- the offset of the first fault is a term
pub first_fault_known : (xs : List ℕ) (n : ℕ) → IsFirstFault utf8 xs n → n ≡ valid_len (pieces xs)
first_fault_known xs n first = one_first utf8 xs n (valid_len (pieces xs)) first (front_told xs)

-- if a chain found a fault, it is the first
pub first_fault_found : (xs : List ℕ) (x : Item) → Some x ≡ find (λ (y : Item). is_err y.1) (pieces xs) → IsFirstFault utf8 xs x.0
first_fault_found xs x e =
    let place : x.0 ≡ valid_len (pieces xs) = subst (λ r. MatchOption r (length xs ≡ valid_len (pieces xs)) (λ (y : Item). y.0 ≡ valid_len (pieces xs))) (sym e) (place_told xs) in
    subst (IsFirstFault utf8 xs) (sym place) (front_told xs)

-- if it found none, there is none
pub no_fault_found : (xs : List ℕ) → None ≡ find (λ (y : Item). is_err y.1) (pieces xs) → IsFirstFault utf8 xs (length xs)
no_fault_found xs e =
    let place : length xs ≡ valid_len (pieces xs) = subst (λ r. MatchOption r (length xs ≡ valid_len (pieces xs)) (λ (y : Item). y.0 ≡ valid_len (pieces xs))) (sym e) (place_told xs) in
    subst (IsFirstFault utf8 xs) (sym place) (front_told xs)
