-- The front of a part of a list.
use Rattle.std.proofs.Common.{◌≡◌, ℕ, ◌+◌, ◌-◌, ◌≤◌, List, length, drop, min, refl, arith}
use Rattle.std.proofs.lemmas.Grind.{common_steps}
use Rattle.std.proofs.lemmas.List.{drop-take, drop-drop}
use Rattle.std.specs.Prelude.{slice_range}

-- the elements after its first n
pub range_after : {A : Type 0} (xs : List A) (i j n : ℕ) → n ≤ j - i → slice_range xs (i + n) j ≡ drop n (slice_range xs i j)
range_after xs i j n le =
    let m : j - i ≡ n + (j - (i + n)) = omega arith in
    rw (m, drop-take, drop-drop) refl

-- after the first n elements of a list come as many as after those of them that the list has
pub drop_fitting : {A : Type 0} (xs : List A) (n : ℕ) → drop (min n (length xs)) xs ≡ drop n xs
drop_fitting xs n = grind (arith, common_steps)
