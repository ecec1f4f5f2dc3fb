-- The end of chains over a decoder or a text: a fold that counts.
use Rattle.std.proofs.Common.{◌≡◌, ℕ, ◌+◌, ◌<◌, ◌≤◌, List, [], ◌∷◌, length, Option, refl, ◌∙◌, arith}
use Rattle.std.specs.Iterator.{CallableAtEachTurn}
use Rattle.std.specs.List.{sum_by}
use Rattle.std.proofs.lemmas.Iterator.{YieldsList}
use Rattle.std.proofs.lemmas.Iterator.Adapters.{serves_from_total}
use Rattle.std.proofs.lemmas.List.Sums.{sum_by-cons}

ones : {A : Type 0} (xs : List A) → sum_by (λ _. 1) xs ≡ length xs
ones [] = refl
ones (x ∷ xs) = let rest = ones xs in sum_by-cons (λ _. 1) x xs ∙ (omega arith)

-- a closure that counts at most one for each item may be called for each item of a chain whose list is known
pub count_serves : {S A B : Type 0} {steps : S → Option A → S → Type 0} {v : A → B} {s : S} {all : List B} (road : YieldsList steps v s all) (most : ℕ) → length all ≤ most
    → {F : Type 0} {R : F × ℕ → A → F × ℕ → Type 0} {Q : F × ℕ → A → Type 0} {f : F} → ((n : ℕ) (x : A) (q : F × ℕ) → R (f, n) x q → (q.0 ≡ f) × (q.1 ≤ n + 1))
    → ((n : ℕ) (x : A) → n < most → Q (f, n) x) → CallableAtEachTurn {P = F × ℕ} steps R Q s (f, 0)
count_serves {S} {A} {B} {steps} {v} {s} {all} road most le calls may =
    let count = ones all in
    serves_from_total road (λ _. 1) calls (λ n x few. may n x (omega arith))
