-- Counts of the elements that pass a test.
use Rattle.std.proofs.Common.{◌≡◌, ℕ, ◌+◌, ◌≤◌, Bool, true, false, List, ◌∷◌, ◌++◌, count_by, arith, refl}
use Rattle.std.proofs.lemmas.List.Sums.{sum_by-append, sum_by-cons}
use Rattle.std.specs.Prelude.{cond}
use mir.Val.{bool_byte}
use Rattle.surveys.specs.SurveyCounts.{number}

pub counted_append : (p : ℕ → Bool) (a b : List ℕ) → count_by p (a ++ b) ≡ count_by p a + count_by p b
counted_append p a b = sum_by-append (λ x. cond (p x) 1 0) a b

pub counted_cons : (p : ℕ → Bool) (x : ℕ) (xs : List ℕ) → count_by p (x ∷ xs) ≡ number (p x) + count_by p xs
counted_cons p x xs = sum_by-cons (λ y. cond (p y) 1 0) x xs

pub number_few : (b : Bool) → number b ≤ 1
number_few true = omega arith
number_few false = omega arith

-- a test as a byte
pub as_number : (b : Bool) → bool_byte b ≡ number b
as_number true = refl
as_number false = refl
