-- Taking elements from the front of a list into a buffer, and the bounds that a hint gives for a list to
-- come.
use Rattle.std.specs.Prelude.{ℕ, ◌≤◌, List, ◌++◌, length, take, drop, min, Option, IfSome}

-- the number of elements of a list that fit into a buffer
abbrev pub fitting : {A : Type 0} → List A → List A → ℕ
fitting buf xs = min (length buf) (length xs)

-- the buffer with as many of the elements at its front as fit; the rest of it is unchanged
abbrev pub filled : {A : Type 0} → List A → List A → List A
filled buf xs = take (length buf) xs ++ drop (length xs) buf

-- the list has at least as many elements as the first number, and at most as many as the second
abbrev pub BoundsLength : {A : Type 0} → List A → ℕ × Option ℕ → Type 0
BoundsLength xs hint = (hint.0 ≤ length xs) × IfSome hint.1 (λ n. length xs ≤ n)
