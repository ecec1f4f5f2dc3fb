-- Items that are moved within a list: in parts, and within a part.
use Rattle.std.proofs.Common.{◌≡◌, ℕ, ◌+◌, le_trans, ◌<◌, ◌/◌, ◌*◌, ◌-◌, ◌≤◌, List, [], ◌++◌, length, take, drop, refl, sym, ◌∙◌, ap, arith, append_assoc, append-nil, length-append, length-drop, length-take-le, take-take, drop-drop, take-append-drop}
use Rattle.std.proofs.lemmas.Grind.{common_steps}
use Rattle.std.proofs.lemmas.List.{drop-take, take-append-le}
use Rattle.std.proofs.Math.Nat.{mul-le-mul_right, div-mul-le_self}
use lib.ListN.{drop_of_length-le}
use lib.Seq.{drop-append-add, drop-append-le, drop_at, take-add, take_at}
use Rattle.std.specs.List.{copy_within}
use borrow.Rule.Slice.PartMut.{put_mid}

-- n items from a on, moved so that they begin at t
abbrev placed : {X : Type 0} → List X → ℕ → ℕ → ℕ → List X
placed xs a n t = take t xs ++ (take n (drop a xs) ++ drop (t + n) xs)

as_placed : {X : Type 0} (xs : List X) (a n t : ℕ) → copy_within xs a (a + n) t ≡ placed xs a n t
as_placed xs a n t = let count : a + n - a ≡ n = omega arith in rw (count, append_assoc) refl

-- b items and the n after them are b + n items
together : {X : Type 0} (xs : List X) (a b n : ℕ) → take (b + n) (drop a xs) ≡ take b (drop a xs) ++ take n (drop (a + b) xs)
together xs a b n = take-add b n (drop a xs) ∙ ap (λ ys. take b (drop a xs) ++ take n ys) (drop-drop b a xs)

-- Parts of a list that has a front of another.
front_of : {X : Type 0} (xs zs : List X) (p t : ℕ) → t ≤ p → p ≤ length xs → take t (take p xs ++ zs) ≡ take t xs
front_of xs zs p t le within = grind (arith, common_steps)

middle_of : {X : Type 0} (xs zs : List X) (p a b : ℕ) → a + b ≤ p → p ≤ length xs → take b (drop a (take p xs ++ zs)) ≡ take b (drop a xs)
middle_of xs zs p a b le within =
    let sum : a + (p - a) ≡ p = omega arith in
    let long : length (take p xs) ≡ p = length-take-le p xs within in
    let left : drop a (take p xs) ≡ take (p - a) (drop a xs) = ap (λ q. drop a (take q xs)) (sym sum) ∙ drop-take a (p - a) xs in
    let rest : length (drop a (take p xs)) ≡ p - a = length-drop a (take p xs) ∙ ap (λ q. q - a) long in
    let short : take b (take (p - a) (drop a xs)) ≡ take b (drop a xs) = grind (arith, take-take) in
    ap (λ ys. take b ys) (drop-append-le a (take p xs) zs (omega arith))
    ∙ (take-append-le b (drop a (take p xs)) zs (omega arith) ∙ (ap (λ ys. take b ys) left ∙ short))

rest_of : {X : Type 0} (xs zs : List X) (p : ℕ) → p ≤ length xs → drop p (take p xs ++ zs) ≡ zs
rest_of xs zs p within = grind (arith, common_steps)

-- Parts of three lists.
first_two : {X : Type 0} (xs ys zs : List X) (t n : ℕ) → length xs ≡ t → length ys ≡ n → take (t + n) (xs ++ (ys ++ zs)) ≡ xs ++ ys
first_two xs ys zs t n x y = grind (arith, common_steps)

past_two : {X : Type 0} (xs ys zs : List X) (t n k : ℕ) → length xs ≡ t → length ys ≡ n → drop (t + n + k) (xs ++ (ys ++ zs)) ≡ drop k zs
past_two xs ys zs t n k x y =
    let long : length (xs ++ ys) ≡ t + n = omega (arith, length-append xs ys) in
    rw (← append_assoc xs ys zs, ← long) (drop-append-add (xs ++ ys) zs k)

placed_up : {X : Type 0} (xs : List X) (a b n t : ℕ) → a ≤ t → t + (b + n) ≤ length xs → placed (placed xs (a + b) n (t + b)) a b t ≡ placed xs a (b + n) t
placed_up xs a b n t up room =
    let zs = take n (drop (a + b) xs) ++ drop (t + b + n) xs in
    let sum : t + (b + n) ≡ t + b + n = omega arith in
    rw (front_of xs zs (t + b) t (omega arith) (omega arith), middle_of xs zs (t + b) a b (omega arith) (omega arith), rest_of xs zs (t + b) (omega arith), together xs a b n, append_assoc, sum)
    refl

placed_down : {X : Type 0} (xs : List X) (a n b t : ℕ) → t ≤ a → a + (n + b) ≤ length xs → placed (placed xs a n t) (a + n) b (t + n) ≡ placed xs a (n + b) t
placed_down xs a n b t down room =
    let front = length-take-le t xs (omega arith) in
    let mid : length (take n (drop a xs)) ≡ n = length-take-le n (drop a xs) (omega (arith, length-drop a xs)) in
    let zs = drop (t + n) xs in
    let place : t + n + (a - t) ≡ a + n = omega arith in
    let sum : t + (n + b) ≡ t + n + b = omega arith in
    let later = rw place at (past_two (take t xs) (take n (drop a xs)) zs t n (a - t) front mid) in
    let there = rw place at (drop-drop (a - t) (t + n) xs) in
    rw (first_two (take t xs) (take n (drop a xs)) zs t n front mid, later, there, past_two (take t xs) (take n (drop a xs)) zs t n b front mid, drop-drop b (t + n) xs, together xs a n b, append_assoc, append_assoc, sum)
    refl

-- the second part moved to an offset after, and then the first part
pub copied_up : {X : Type 0} (xs : List X) (a b n t : ℕ) → a ≤ t → t + (b + n) ≤ length xs
    → copy_within (copy_within xs (a + b) (a + b + n) (t + b)) a (a + b) t ≡ copy_within xs a (a + b + n) t
copied_up xs a b n t up room =
    let whole : a + (b + n) ≡ a + b + n = omega arith in
    ap (λ ys. copy_within ys a (a + b) t) (as_placed xs (a + b) n (t + b))
    ∙ (as_placed (placed xs (a + b) n (t + b)) a b t ∙ (placed_up xs a b n t up room ∙ (sym (as_placed xs a (b + n) t) ∙ ap (λ e. copy_within xs a e t) whole)))

-- the first part moved to an offset before, and then the second part
pub copied_down : {X : Type 0} (xs : List X) (a n b t : ℕ) → t ≤ a → a + (n + b) ≤ length xs
    → copy_within (copy_within xs a (a + n) t) (a + n) (a + n + b) (t + n) ≡ copy_within xs a (a + n + b) t
copied_down xs a n b t down room =
    let whole : a + (n + b) ≡ a + n + b = omega arith in
    ap (λ ys. copy_within ys (a + n) (a + n + b) (t + n)) (as_placed xs a n t)
    ∙ (as_placed (placed xs a n t) (a + n) b (t + n) ∙ (placed_down xs a n b t down room ∙ (sym (as_placed xs a (n + b) t) ∙ ap (λ e. copy_within xs a e t) whole)))

-- both parts moved to the front
pub copied_front : {X : Type 0} (xs : List X) (a n b : ℕ) → a + (n + b) ≤ length xs
    → copy_within (copy_within xs a (a + n) 0) (a + n) (a + n + b) n ≡ copy_within xs a (a + n + b) 0
copied_front xs a n b room =
    let place : n ≡ 0 + n = omega arith in
    ap (λ t. copy_within (copy_within xs a (a + n) 0) (a + n) (a + n + b) t) place ∙ copied_down xs a n b 0 (omega arith) room

-- Items that are moved within the middle one of three lists are moved within all.
down_within : {X : Type 0} (ws ms zs : List X) (g : ℕ) → g ≤ length ms
    → ws ++ (copy_within ms g (length ms) 0 ++ zs) ≡ copy_within (ws ++ (ms ++ zs)) (length ws + g) (length ws + length ms) (length ws)
down_within ws ms zs g le =
    let n = length ms - g in
    let some = take n (drop g ms) in
    let count : length ws + length ms - (length ws + g) ≡ n = omega arith in
    let none : 0 + n ≡ n = omega arith in
    let front : take (length ws) (ws ++ (ms ++ zs)) ≡ ws = take_at ws (ms ++ zs) (length ws) refl in
    let later : drop (length ws + g) (ws ++ (ms ++ zs)) ≡ drop g ms ++ zs = drop-append-add ws (ms ++ zs) g ∙ drop-append-le g ms zs le in
    let moved : take n (drop g ms ++ zs) ≡ some = take-append-le n (drop g ms) zs (omega (arith, length-drop g ms)) in
    let rest : drop (length ws + n) (ws ++ (ms ++ zs)) ≡ drop n ms ++ zs = drop-append-add ws (ms ++ zs) n ∙ drop-append-le n ms zs (omega arith) in
    rw (count, none, front, later, moved, rest) (ap (λ us. ws ++ us) (append_assoc some (drop n ms) zs) ∙ sym (append_assoc ws some (drop n ms ++ zs)))

up_within : {X : Type 0} (ws ms zs : List X) (g : ℕ) → g ≤ length ms
    → ws ++ (copy_within ms 0 (length ms - g) g ++ zs) ≡ copy_within (ws ++ (ms ++ zs)) (length ws) (length ws + (length ms - g)) (length ws + g)
up_within ws ms zs g le =
    let xs = ws ++ (ms ++ zs) in
    let n = length ms - g in
    let w = length ws in
    let stays = take g ms in
    let some = take n ms in
    let count : w + n - w ≡ n = omega arith in
    let none : n - 0 ≡ n = omega arith in
    let all : g + n ≡ length ms = omega arith in
    let sum : w + g + n ≡ w + length ms = omega arith in
    let empty : drop (length ms) ms ≡ [] = drop_of_length-le ms (omega arith) in
    let later : drop w xs ≡ ms ++ zs = drop_at ws (ms ++ zs) w refl in
    let front : take (w + g) xs ≡ ws ++ stays =
    take-add w g xs
    ∙ (ap (λ us. us ++ take g (drop w xs)) (take_at ws (ms ++ zs) w refl)
    ∙ (ap (λ us. ws ++ take g us) later ∙ ap (λ us. ws ++ us) (take-append-le g ms zs le))) in
    let moved : take n (ms ++ zs) ≡ some = take-append-le n ms zs (omega arith) in
    let rest : drop (w + length ms) xs ≡ zs = drop-append-add ws (ms ++ zs) (length ms) ∙ drop_at ms zs (length ms) refl in
    let grouped = append_assoc (ws ++ stays) some zs ∙ append_assoc ws stays (some ++ zs) in
    rw (none, all, empty, count, front, later, moved, sum, rest)
    (ap (λ us. ws ++ (us ++ zs)) (append-nil (stays ++ some)) ∙ (ap (λ us. ws ++ us) (append_assoc stays some zs) ∙ sym grouped))

-- A part of a list from the offset a on.
abbrev middle : {X : Type 0} → List X → ℕ → ℕ → List X
middle xs a k = take k (drop a xs)

in_place : {X : Type 0} (xs : List X) (a k : ℕ) → take a xs ++ (middle xs a k ++ drop k (drop a xs)) ≡ xs
in_place xs a k = ap (λ ys. take a xs ++ ys) (take-append-drop k (drop a xs)) ∙ take-append-drop a xs

-- the items of a part that are moved to its front
pub moved_down_in_part : {X : Type 0} (xs : List X) (f e t : ℕ) → t ≤ f → f ≤ e → e ≤ length xs
    → put_mid t (e - t) xs (copy_within (middle xs t (e - t)) (f - t) (length (middle xs t (e - t))) 0) ≡ copy_within xs f e t
moved_down_in_part xs f e t down ordered within =
    let front : length (take t xs) ≡ t = length-take-le t xs (omega arith) in
    let mid : length (middle xs t (e - t)) ≡ e - t = length-take-le (e - t) (drop t xs) (omega (arith, length-drop t xs)) in
    let start : t + (f - t) ≡ f = omega arith in
    let end : t + (e - t) ≡ e = omega arith in
    let moved = down_within (take t xs) (middle xs t (e - t)) (drop (e - t) (drop t xs)) (f - t) (omega arith) in
    rw mid (rw (in_place xs t (e - t), front, mid, start, end) at moved)

-- the items of a part that are moved to its end
pub moved_up_in_part : {X : Type 0} (xs : List X) (f e t : ℕ) → f ≤ t → f ≤ e → t + (e - f) ≤ length xs
    → put_mid f (t + (e - f) - f) xs (copy_within (middle xs f (t + (e - f) - f)) 0 (length (middle xs f (t + (e - f) - f)) - (t - f)) (t - f)) ≡ copy_within xs f e t
moved_up_in_part xs f e t up ordered within =
    let k = t + (e - f) - f in
    let front : length (take f xs) ≡ f = length-take-le f xs (omega arith) in
    let mid : length (middle xs f k) ≡ k = length-take-le k (drop f xs) (omega (arith, length-drop f xs)) in
    let end : f + (k - (t - f)) ≡ e = omega arith in
    let place : f + (t - f) ≡ t = omega arith in
    let moved = up_within (take f xs) (middle xs f k) (drop k (drop f xs)) (t - f) (omega arith) in
    rw mid (rw (in_place xs f k, front, mid, end, place) at moved)

-- Chunks of n items.
pub next_chunk : (k n : ℕ) → (k + 1) * n ≡ k * n + n
next_chunk k n = grind arith

pub one_chunk : (k n : ℕ) → 0 < k → (k - 1) * n + n ≡ k * n
one_chunk k n some = let there : k - 1 + 1 ≡ k = omega arith in sym (next_chunk (k - 1) n) ∙ ap (λ m. m * n) there

pub no_chunk : (k n : ℕ) → k ≤ 0 → k * n ≡ 0
no_chunk k n none =
    let zero : k ≡ 0 = omega arith in
    let nothing : 0 * n ≡ 0 = omega arith in
    ap (λ m. m * n) zero ∙ nothing

pub chunks_within : (k m n : ℕ) → k ≤ m / n → k * n ≤ m
chunks_within k m n le = le_trans (mul-le-mul_right n le) (div-mul-le_self m n)
