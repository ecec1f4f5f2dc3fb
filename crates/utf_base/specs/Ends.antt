-- The code that ends a list, generic in the code.
use Rattle.std.specs.Prelude.{◌≡◌, ℕ, ◌-◌, List, length, slice_index}
use Rattle.utf_base.specs.Piece.{Stands}

-- the last element
abbrev pub last_of : List ℕ → ℕ
last_of w = slice_index w (length w - 1)

-- the code of the scalar s ends the list, and n is its length
abbrev pub EndsWith : (ℕ → List ℕ) → List ℕ → ℕ → ℕ → Type 0
EndsWith code w s n = Stands code w (length w - n) s × (n ≡ length (code s))

-- no code ends the list
abbrev pub NoCodeEnds : (ℕ → List ℕ) → List ℕ → Type 0
NoCodeEnds code w = (s n : ℕ) → ¬ EndsWith code w s n
