-- Bytes swapped in pairs, part by part, and as lanes.
use Rattle.std.proofs.Common.{◌≡◌, ℕ, zero, suc, ◌+◌, ◌-◌, ◌*◌, ◌/◌, ◌%◌, ◌≤◌, List, [], ◌∷◌, ◌++◌, map, length, get_or, take, drop, refl, sym, ap, ap₂, ◌∙◌, arith, append_assoc, length-append, length-take, length-drop, drop-cons, take-add, take-append-drop}
use Rattle.std.proofs.lemmas.List.{drop-drop, drop_at, take_at, take_all}
use Rattle.utf_lanes.specs.BytePairs.{swapped}

swapped_append : (v later : List ℕ) (k : ℕ) → length v ≡ 2 * k → swapped (v ++ later) ≡ swapped v ++ swapped later
swapped_append [] later k h = refl
swapped_append (a ∷ []) later k h = absurd (omega arith)
swapped_append (a ∷ b ∷ v) later k h = ap (λ ys. b ∷ a ∷ ys) (swapped_append v later (k - 1) (omega arith))

-- the swapped bytes of a longer front
pub swapped_more : (xs old mid new : List ℕ) (p n : ℕ) → p % 2 ≡ 0 → p ≤ length xs → mid ≡ old ++ swapped (take p xs) → new ≡ mid ++ swapped (take n (drop p xs)) → new ≡ old ++ swapped (take (p + n) xs)
swapped_more xs old mid new p n even within e f =
    let half : length (take p xs) ≡ 2 * (p / 2) = omega (arith, length-take p xs) in
    f ∙ ap (λ ys. ys ++ swapped (take n (drop p xs))) e ∙ append_assoc old (swapped (take p xs)) (swapped (take n (drop p xs)))
    ∙ ap (λ ys. old ++ ys) (sym (swapped_append (take p xs) (take n (drop p xs)) (p / 2) half) ∙ ap swapped (sym (take-add p n xs)))

-- the rest of the bytes after a front
pub swapped_rest : (xs old mid new : List ℕ) (p : ℕ) → p % 2 ≡ 0 → p ≤ length xs → mid ≡ old ++ swapped (take p xs) → new ≡ mid ++ swapped (drop p xs) → new ≡ old ++ swapped xs
swapped_rest xs old mid new p even within e f =
    let left : length (drop p xs) ≡ length xs - p = length-drop p xs in
    let rest : take (length xs - p) (drop p xs) ≡ drop p xs = take_all (length xs - p) (drop p xs) (omega arith) in
    let whole : take (p + (length xs - p)) xs ≡ xs = take_all (p + (length xs - p)) xs (omega arith) in
    rw whole at (swapped_more xs old mid new p (length xs - p) even within e (rw rest f))

-- one pair
pub swapped_pair : (xs mid one two : List ℕ) (p : ℕ) → p + 2 ≤ length xs → one ≡ mid ++ get_or xs (p + 1) 0 ∷ [] → two ≡ one ++ get_or xs p 0 ∷ [] → two ≡ mid ++ swapped (take 2 (drop p xs))
swapped_pair xs mid one two p within e f =
    let next : suc p ≡ p + 1 = omega arith in
    let pair : take 2 (drop p xs) ≡ get_or xs p 0 ∷ get_or xs (p + 1) 0 ∷ []
    = ap (take 2) (drop-cons xs p 0 (omega arith) ∙ ap (λ ys. get_or xs p 0 ∷ ys) (drop-cons xs (suc p) 0 (omega arith) ∙ ap (λ j. get_or xs j 0 ∷ drop (suc (suc p)) xs) next)) in
    f ∙ ap (λ ys. ys ++ get_or xs p 0 ∷ []) e ∙ append_assoc mid (get_or xs (p + 1) 0 ∷ []) (get_or xs p 0 ∷ []) ∙ ap (λ ys. mid ++ swapped ys) (sym pair)

-- The offsets at which lanes are looked up.

abbrev turned_places : ℕ → ℕ → List ℕ
turned_places p zero = []
turned_places p (suc n) = (p + 1) ∷ p ∷ turned_places (p + 2) n

looked_up : (ys : List ℕ) (p n : ℕ) → p + 2 * n ≤ length ys → map (λ k. get_or ys k 0) (turned_places p n) ≡ swapped (take (2 * n) (drop p ys))
looked_up ys p zero within = refl
looked_up ys p (suc n) within =
    let two : 2 * suc n ≡ suc (suc (2 * n)) = omega arith in
    let next : suc p ≡ p + 1 = omega arith in
    let last : suc (suc p) ≡ p + 2 = omega arith in
    let front : drop p ys ≡ get_or ys p 0 ∷ get_or ys (p + 1) 0 ∷ drop (p + 2) ys
    = drop-cons ys p 0 (omega arith) ∙ ap (λ zs. get_or ys p 0 ∷ zs) (drop-cons ys (suc p) 0 (omega arith) ∙ ap₂ (λ j zs. get_or ys j 0 ∷ zs) next (ap (λ j. drop j ys) last)) in
    rw (two, front) (ap (λ zs. get_or ys (p + 1) 0 ∷ get_or ys p 0 ∷ zs) (looked_up ys (p + 2) n (omega arith)))

-- the lanes of a vector, which is looked up in two copies of it
pub lanes_swapped : (w : List ℕ) (n : ℕ) → length w ≡ 2 * n → map (λ k. get_or (w ++ w) k 0) (turned_places 0 n) ≡ swapped w
lanes_swapped w n h = looked_up (w ++ w) 0 n (omega (arith, length-append w w)) ∙ ap swapped (take_at w w (2 * n) h)

-- the last few of a block that ends with the bytes
pub swapped_last : (xs ys : List ℕ) (count : ℕ) → length xs % 2 ≡ 0 → count % 2 ≡ 0 → count ≤ 16 → 16 ≤ length xs → ys ≡ swapped (take 16 (drop (length xs - 16) xs))
    → take (16 - (16 - count)) (drop (16 - count) ys) ≡ swapped (drop (length xs - count) xs)
swapped_last xs ys count even pairs few enough e =
    let block = take 16 (drop (length xs - 16) xs) in
    let rest = drop (length xs - 16) xs in
    let long : length rest ≡ 16 = omega (arith, length-drop (length xs - 16) xs) in
    let whole : take 16 rest ≡ rest = take_all 16 rest (omega arith) in
    let at : length xs - 16 + (16 - count) ≡ length xs - count = omega arith in
    let last : drop (16 - count) rest ≡ drop (length xs - count) xs = drop-drop (16 - count) (length xs - 16) xs ∙ ap (λ j. drop j xs) at in
    let same : ys ≡ swapped rest = e ∙ ap swapped whole in
    let fits : length (drop (16 - count) ys) ≤ 16 - (16 - count) = omega (arith, length-drop (16 - count) ys, ap length same, length_swapped rest 8 long) in
    take_all (16 - (16 - count)) (drop (16 - count) ys) fits ∙ ap (drop (16 - count)) same ∙ swapped_drop rest (16 - count) (omega arith) (omega arith) ∙ ap swapped last
  where
    length_swapped : (v : List ℕ) (k : ℕ) → length v ≡ 2 * k → length (swapped v) ≡ 2 * k
    length_swapped [] k h = omega arith
    length_swapped (a ∷ []) k h = absurd (omega arith)
    length_swapped (a ∷ b ∷ v) k h = let more = length_swapped v (k - 1) (omega arith) in omega arith

    swapped_drop : (v : List ℕ) (n : ℕ) → n % 2 ≡ 0 → n ≤ length v → drop n (swapped v) ≡ swapped (drop n v)
    swapped_drop v n half within =
        let front : length (take n v) ≡ 2 * (n / 2) = omega (arith, length-take n v) in
        let parts : swapped v ≡ swapped (take n v) ++ swapped (drop n v) = ap swapped (sym (take-append-drop n v)) ∙ swapped_append (take n v) (drop n v) (n / 2) front in
        let count : length (swapped (take n v)) ≡ n = length_swapped (take n v) (n / 2) front ∙ omega arith in
        ap (drop n) parts ∙ drop_at (swapped (take n v)) (swapped (drop n v)) n count
