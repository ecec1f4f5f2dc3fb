-- Pairs of bytes that do not go together, counted by rows, are those that are counted one after the other.
use Rattle.std.proofs.Common.{◌≡◌, ℕ, zero, suc, ◌+◌, ◌*◌, ◌<◌, ◌≤◌, List, [], ◌∷◌, length, take, drop, get_or, refl, sym, ap, ap₂, ◌∙◌, arith, add_assoc, add-zero, zero-add, length-drop}
use Rattle.std.proofs.lemmas.List.{get_or-drop, get_or-take}
use Rattle.surveys.specs.SurveyCounts.{number}
use Rattle.surveys.specs.SurveyUnits.{are_highs_unpaired, lane_count, unpaired_highs}
use Rattle.surveys.proofs.ClassCounts.{number_few}
use Rattle.surveys.proofs.FedUnits.{one_at, two_at}

-- the sum of the first n numbers
unfoldable pub sum_to : ℕ → (ℕ → ℕ) → ℕ
sum_to zero f = 0
sum_to (suc n) f = sum_to n f + f n

pub sum_same : (n : ℕ) (f g : ℕ → ℕ) → ((k : ℕ) → k < n → f k ≡ g k) → sum_to n f ≡ sum_to n g
unfolding sum_to
sum_same zero f g same = refl
sum_same (suc n) f g same = ap₂ (λ a b. a + b) (sum_same n f g (λ k lt. same k (omega arith))) (same n (omega arith))

sum_plus : (n : ℕ) (f g : ℕ → ℕ) → sum_to n (λ k. f k + g k) ≡ sum_to n f + sum_to n g
unfolding sum_to
sum_plus zero f g = refl
sum_plus (suc n) f g = let rest = sum_plus n f g in omega arith

sum_more : (n m : ℕ) (f : ℕ → ℕ) → sum_to (n + m) f ≡ sum_to n f + sum_to m (λ k. f (n + k))
unfolding sum_to
sum_more n zero f = ap (λ k. sum_to k f) (add-zero n) ∙ sym (add-zero (sum_to n f))
sum_more n (suc m) f =
    let next : n + suc m ≡ suc (n + m) = omega arith in
    let rest = sum_more n m f in
    ap (λ k. sum_to k f) next ∙ ap (λ a. a + f (n + m)) rest ∙ add_assoc (sum_to n f) (sum_to m (λ k. f (n + k))) (f (n + m))

sum_zero : (n : ℕ) → sum_to n (λ k. 0) ≡ 0
unfolding sum_to
sum_zero zero = refl
sum_zero (suc n) = add-zero (sum_to n (λ k. 0)) ∙ sum_zero n

-- whether the byte at an offset and the second one after it do not go together
pub at : List ℕ → ℕ → ℕ
at xs i = number (are_highs_unpaired (get_or xs i 0) (get_or xs (i + 2) 0))

-- a row, and one more of its pairs
pub row_at : (xs : List ℕ) (i k : ℕ) → k < 32 → number (are_highs_unpaired (get_or (take 34 (drop i xs)) k 0) (get_or (take 34 (drop i xs)) (k + 2) 0)) ≡ at xs (i + k)
unfolding at
row_at xs i k lt =
    let first : get_or (take 34 (drop i xs)) k 0 ≡ get_or xs (i + k) 0 = get_or-take 34 (drop i xs) k 0 (omega arith) ∙ get_or-drop i xs k 0 in
    let sum : i + (k + 2) ≡ i + k + 2 = omega arith in
    let second : get_or (take 34 (drop i xs)) (k + 2) 0 ≡ get_or xs (i + k + 2) 0
    = get_or-take 34 (drop i xs) (k + 2) 0 (omega arith) ∙ get_or-drop i xs (k + 2) 0 ∙ ap (λ j. get_or xs j 0) sum in
    ap₂ (λ a b. number (are_highs_unpaired a b)) first second

pub lane_more : (xs : List ℕ) (k n : ℕ) → lane_count xs k (n + 1) ≡ lane_count xs k n + at xs (32 * n + k)
unfolding lane_count at
lane_more xs k n = let next : n + 1 ≡ suc n = omega arith in ap (lane_count xs k) next

pub sum_next : (n : ℕ) (f : ℕ → ℕ) → sum_to (n + 1) f ≡ sum_to n f + f n
unfolding sum_to
sum_next n f = let next : n + 1 ≡ suc n = omega arith in ap (λ k. sum_to k f) next

pub lane_few : (xs : List ℕ) (k n : ℕ) → lane_count xs k n ≤ n
unfolding lane_count
lane_few xs k zero = omega arith
lane_few xs k (suc n) =
    let rest = lane_few xs k n in
    let one = number_few (are_highs_unpaired (get_or xs (32 * n + k) 0) (get_or xs (32 * n + k + 2) 0)) in
    omega arith

-- every second byte from p on, by rows
pub rows_are : (xs : List ℕ) (p n : ℕ) → sum_to 16 (λ j. lane_count xs (2 * j + p) n) ≡ sum_to (16 * n) (λ m. at xs (2 * m + p))
unfolding lane_count at sum_to
rows_are xs p zero = sum_zero 16
rows_are xs p (suc n) =
    let f : ℕ → ℕ = λ m. at xs (2 * m + p) in
    let row : ℕ → ℕ = λ j. at xs (32 * n + (2 * j + p)) in
    let next : 16 * suc n ≡ 16 * n + 16 = omega arith in
    let split : sum_to 16 (λ j. lane_count xs (2 * j + p) n + row j) ≡ sum_to 16 (λ j. lane_count xs (2 * j + p) n) + sum_to 16 row = sum_plus 16 (λ j. lane_count xs (2 * j + p) n) row in
    let same : sum_to 16 row ≡ sum_to 16 (λ k. f (16 * n + k)) = sum_same 16 row (λ k. f (16 * n + k)) (λ k lt. ap (at xs) (omega arith)) in
    split ∙ ap₂ (λ a b. a + b) (rows_are xs p n) same ∙ sym (ap (λ k. sum_to k f) next ∙ sum_more (16 * n) 16 f)

highs_few : (xs : List ℕ) → length xs ≤ 2 → unpaired_highs xs ≡ 0
unfolding unpaired_highs
highs_few [] few = refl
highs_few (a ∷ []) few = refl
highs_few (a ∷ b ∷ []) few = refl
highs_few (a ∷ b ∷ c ∷ xs) few = absurd (omega arith)

highs_one : (xs : List ℕ) (i : ℕ) → i + 3 ≤ length xs → unpaired_highs (drop i xs) ≡ at xs i + unpaired_highs (drop (i + 2) xs)
unfolding unpaired_highs at
highs_one xs i within =
    let third : drop (i + 2) xs ≡ get_or xs (i + 2) 0 ∷ drop (i + 3) xs = one_at xs (i + 2) (omega arith) ∙ ap (λ k. get_or xs (i + 2) 0 ∷ drop k xs) (omega arith) in
    let here : drop i xs ≡ get_or xs i 0 ∷ get_or xs (i + 1) 0 ∷ get_or xs (i + 2) 0 ∷ drop (i + 3) xs
    = two_at xs i (omega arith) ∙ ap (λ z. get_or xs i 0 ∷ get_or xs (i + 1) 0 ∷ z) third in
    rw (here, third) refl

highs_to : (xs : List ℕ) (p n : ℕ) → p + 2 * n < length xs → unpaired_highs (drop p xs) ≡ sum_to n (λ m. at xs (2 * m + p)) + unpaired_highs (drop (2 * n + p) xs)
unfolding sum_to
highs_to xs p zero within =
    let start : p ≡ 2 * 0 + p = omega arith in
    sym (zero-add (unpaired_highs (drop p xs))) ∙ ap (λ k. 0 + unpaired_highs (drop k xs)) start
highs_to xs p (suc n) within =
    let next : 2 * n + p + 2 ≡ 2 * suc n + p = omega arith in
    let s = sum_to n (λ m. at xs (2 * m + p)) in
    highs_to xs p n (omega arith) ∙ ap (λ a. s + a) (highs_one xs (2 * n + p) (omega arith) ∙ ap (λ k. at xs (2 * n + p) + unpaired_highs (drop k xs)) next)
    ∙ sym (add_assoc s (at xs (2 * n + p)) (unpaired_highs (drop (2 * suc n + p) xs)))

-- all rows, from the first byte on or from the second
pub rows_all : (xs : List ℕ) (p : ℕ) → length xs ≡ 3074 → p < 2 → sum_to 16 (λ j. lane_count xs (2 * j + p) 96) ≡ unpaired_highs (drop p xs)
rows_all xs p size lt =
    let few : length (drop (2 * 1536 + p) xs) ≤ 2 = omega (arith, length-drop (2 * 1536 + p) xs) in
    rows_are xs p 96
    ∙ sym (highs_to xs p 1536 (omega arith) ∙ ap (λ a. sum_to 1536 (λ m. at xs (2 * m + p)) + a) (highs_few (drop (2 * 1536 + p) xs) few) ∙ add-zero (sum_to 1536 (λ m. at xs (2 * m + p))))
