-- A mark at the front of bytes, byte by byte.
use Rattle.std.proofs.Common.{◌≡◌, ℕ, ◌<◌, ◌≤◌, true, ◌&&◌, eqb, List, [], ◌∷◌, length, get_or, drop, refl, arith}
use Rattle.surveys.specs.Guesses.{begins}

pub begins-none : (mark front : List ℕ) → length mark < 1 → begins mark front ≡ true
unfolding begins
begins-none [] front few = refl
begins-none (b ∷ mark) front few = absurd (omega arith)

pub begins-more : (mark front : List ℕ) → 1 ≤ length mark → begins mark front ≡ (eqb (get_or front 0 0) (get_or mark 0 0) && begins (drop 1 mark) (drop 1 front))
unfolding begins
begins-more [] front some = absurd (omega arith)
begins-more (b ∷ mark) front some = refl
