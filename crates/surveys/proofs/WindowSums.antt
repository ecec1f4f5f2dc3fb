-- The sum over the windows of bytes, as windows are added at the front, and of bytes that are divided.
use Rattle.std.proofs.Common.{◌≡◌, ℕ, ◌+◌, ◌<◌, ◌≤◌, List, [], ◌∷◌, ◌++◌, length, take, leb, true, false, refl, sym, ap, ◌∙◌, arith, add_assoc, zero-add, length-append, append_assoc}
use Rattle.std.proofs.lemmas.List.{take-append-le}
use Rattle.std.proofs.lemmas.Bool.Decides.{nat_tests}
use Rattle.surveys.specs.SurveyCounts.{window_sum}

pub window_sum-more : (f : List ℕ → ℕ) (b : ℕ) (bytes : List ℕ) → 17 ≤ length (b ∷ bytes) → window_sum f (b ∷ bytes) ≡ f (take 17 (b ∷ bytes)) + window_sum f bytes
unfolding window_sum
window_sum-more f b bytes long =
    let test : leb 17 (length (b ∷ bytes)) ≡ true = grind (arith, nat_tests) in
    rw test refl

window_sum-less : (f : List ℕ → ℕ) (b : ℕ) (bytes : List ℕ) → length (b ∷ bytes) < 17 → window_sum f (b ∷ bytes) ≡ window_sum f bytes
unfolding window_sum
window_sum-less f b bytes few =
    let test : leb 17 (length (b ∷ bytes)) ≡ false = grind (arith, nat_tests) in
    rw test (zero-add (window_sum f bytes))

pub window_sum-few : (f : List ℕ → ℕ) (bytes : List ℕ) → length bytes < 17 → window_sum f bytes ≡ 0
unfolding window_sum
window_sum-few f [] few = refl
window_sum-few f (b ∷ bytes) few = window_sum-less f b bytes few ∙ window_sum-few f bytes (omega arith)

-- a window that begins before the last 16 of some bytes does not see what follows them
first_window : (x : ℕ) (a b later : List ℕ) → length b ≡ 16 → take 17 (x ∷ (a ++ (b ++ later))) ≡ take 17 (x ∷ (a ++ b))
first_window x a b later h =
    let long : 17 ≤ length (x ∷ (a ++ b)) = omega (arith, length-append a b) in
    ap (λ z. take 17 (x ∷ z)) (sym (append_assoc a b later)) ∙ take-append-le 17 (x ∷ (a ++ b)) later long

pub window_sum-split : (f : List ℕ → ℕ) (a b later : List ℕ) → length b ≡ 16 → window_sum f (a ++ (b ++ later)) ≡ window_sum f (a ++ b) + window_sum f (b ++ later)
window_sum-split f [] b later h = sym (ap (λ n. n + window_sum f (b ++ later)) (window_sum-few f b (omega arith)) ∙ zero-add (window_sum f (b ++ later)))
window_sum-split f (x ∷ a) b later h =
    let short : 17 ≤ length (x ∷ (a ++ b)) = omega (arith, length-append a b) in
    let long : 17 ≤ length (x ∷ (a ++ (b ++ later))) = omega (arith, length-append a (b ++ later), length-append b later) in
    window_sum-more f x (a ++ (b ++ later)) long
    ∙ ap (λ w. f w + window_sum f (a ++ (b ++ later))) (first_window x a b later h)
    ∙ ap (λ n. f (take 17 (x ∷ (a ++ b))) + n) (window_sum-split f a b later h)
    ∙ sym (add_assoc (f (take 17 (x ∷ (a ++ b)))) (window_sum f (a ++ b)) (window_sum f (b ++ later)))
    ∙ ap (λ n. n + window_sum f (b ++ later)) (sym (window_sum-more f x (a ++ b) short))
