-- Bounds of the number of pieces that a decoder gives, by the number of elements.
use Rattle.std.specs.Prelude.{ℕ, ◌*◌, ◌≤◌, List, length}
use Rattle.encode_unicode.specs.Window.{Placed}

-- no more pieces than elements
abbrev pub NoMoreGiven : {E : Type 0} → (List ℕ → List (Placed E)) → Type 0
NoMoreGiven given = (xs : List ℕ) → length (given xs) ≤ length xs

-- a decoder's pieces have at most `most` elements each
abbrev pub NoLongerGiven : {E : Type 0} → (List ℕ → List (Placed E)) → ℕ → Type 0
NoLongerGiven given longest = (xs : List ℕ) → length xs ≤ longest * length (given xs)
