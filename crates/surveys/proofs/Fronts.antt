-- The first and the last bytes of input that comes in parts.
use Rattle.std.proofs.Common.{◌≡◌, ℕ, zero, suc, ◌-◌, ◌<◌, ◌≤◌, List, [], ◌∷◌, ◌++◌, length, min, take, drop, refl, sym, ap, ◌∙◌, arith, append_assoc, ⊎_elim, length-drop, length-append, length-take}
use Rattle.std.proofs.lemmas.Bool.{cases_lt}
use Rattle.std.proofs.lemmas.Grind.{common_steps}
use Rattle.std.proofs.lemmas.List.{take-append-drop, take-append-le}
use Rattle.surveys.specs.SurveyEnds.{first_four}
use Rattle.surveys.specs.SurveyParts.{last_of}
use Rattle.surveys.proofs.FedWindows.{last_of-append, last_of-few}

pub take_again : (n m : ℕ) (xs : List ℕ) → n ≤ m → take n (take m xs) ≡ take n xs
take_again n m xs le = grind (arith, common_steps)

-- only the first of some elements are among the first of those that end with them
pub take_back : (n m : ℕ) (xs ys : List ℕ) → n ≤ m → take n (xs ++ take m ys) ≡ take n (xs ++ ys)
take_back n m [] ys le = take_again n m ys le
take_back zero m (x ∷ xs) ys le = refl
take_back (suc n) m (x ∷ xs) ys le = ap (λ z. x ∷ z) (take_back n m xs ys (omega arith))

-- the first elements of those that begin with the first of others
pub take_front : (n : ℕ) (xs ys : List ℕ) → take n (take n xs ++ ys) ≡ take n (xs ++ ys)
take_front n xs ys =
    ⊎_elim (λ (few : length xs < n). ap (λ z. take n (z ++ ys)) (all few)) (λ (many : n ≤ length xs). cut many) (cases_lt (length xs) n)
  where
    all : length xs < n → take n xs ≡ xs
    all few = grind (arith, common_steps)

    cut : n ≤ length xs → take n (take n xs ++ ys) ≡ take n (xs ++ ys)
    cut many =
        let width : n ≤ length (take n xs) = omega (arith, length-take n xs) in
        take-append-le n (take n xs) ys width ∙ take_again n n xs (omega arith) ∙ sym (take-append-le n xs ys many)

pub first_four-fed : (front part later : List ℕ) → first_four (take 4 (front ++ part) ++ later) ≡ first_four (front ++ (part ++ later))
unfolding first_four
first_four-fed front part later =
    ap (take 4) (append_assoc (take 4 (front ++ part)) later (0 ∷ 0 ∷ 0 ∷ 0 ∷ [])) ∙ take_front 4 (front ++ part) (later ++ 0 ∷ 0 ∷ 0 ∷ 0 ∷ [])
    ∙ ap (take 4) (sym (append_assoc (front ++ part) later (0 ∷ 0 ∷ 0 ∷ 0 ∷ [])) ∙ ap (λ z. z ++ 0 ∷ 0 ∷ 0 ∷ 0 ∷ []) (append_assoc front part later))

-- the first four of what was held and the first four of a part
pub front_joined : (front part : List ℕ) (n : ℕ) → n ≡ min (length part) 4 → take 4 (front ++ take n part) ≡ take 4 (front ++ part)
front_joined front part n e = ap (λ z. take 4 (front ++ z)) (taken part n e) ∙ take_back 4 4 front part (omega arith)
  where
    taken : (w : List ℕ) (k : ℕ) → k ≡ min (length w) 4 → take k w ≡ take 4 w
    taken w k e = grind (arith, common_steps)

pub rest_from : (w : List ℕ) (k : ℕ) → k ≤ length w → take (length w - k) (drop k w) ≡ drop k w
rest_from w k le = grind (arith, common_steps)

pub length-last : (n : ℕ) (bytes : List ℕ) → length (last_of n bytes) ≡ min n (length bytes)
unfolding last_of
length-last n bytes = omega (arith, length-drop (length bytes - n) bytes)

-- what precedes the last elements, and these
whole : (m : ℕ) (xs : List ℕ) → take (length xs - m) xs ++ last_of m xs ≡ xs
unfolding last_of
whole m xs = take-append-drop (length xs - m) xs

-- the last elements of those that end with the last of others
pub last_of-last : (n m : ℕ) (xs ys : List ℕ) → n ≤ m → last_of n (last_of m xs ++ ys) ≡ last_of n (xs ++ ys)
last_of-last n m xs ys le =
    ⊎_elim (λ (few : length xs < m). ap (λ z. last_of n (z ++ ys)) (last_of-few m xs (omega arith))) (λ (many : m ≤ length xs). divided n m xs ys le many) (cases_lt (length xs) m)
  where
    divided : (n m : ℕ) (xs ys : List ℕ) → n ≤ m → m ≤ length xs → last_of n (last_of m xs ++ ys) ≡ last_of n (xs ++ ys)
    divided n m xs ys le many =
        let front = take (length xs - m) xs in
        let many' : n ≤ length (last_of m xs ++ ys) = omega (arith, length-append (last_of m xs) ys, length-last m xs) in
        sym (ap (λ z. last_of n (z ++ ys)) (sym (whole m xs)) ∙ ap (last_of n) (append_assoc front (last_of m xs) ys) ∙ last_of-append n front (last_of m xs ++ ys) many')

pub last_three : (w v : List ℕ) → v ≡ w → 3 ≤ length w → take (length v - (length v - 3)) (drop (length v - 3) v) ≡ last_of 3 w
unfolding last_of
last_three w v e long = rw e (rest_from w (length w - 3) (omega arith))
