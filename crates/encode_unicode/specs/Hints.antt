-- The bounds of an iterator for the number of items that are still to come.
use Rattle.std.specs.Prelude.{ℕ, ◌≤◌, List, length, Option, IfSome}
use Rattle.utf_base.specs.Code.{utf8, utf16}
use Rattle.utf_base.specs.Piece.{Piece, IsCut}

-- the cut has at least as many pieces as the first number, and at most as many as the second
abbrev pub BoundsCut : (ℕ → List ℕ) → List ℕ → ℕ × Option ℕ → Type 0
BoundsCut code xs hint = (ps : List Piece) → IsCut code xs ps → (hint.0 ≤ length ps) × IfSome hint.1 (λ n. length ps ≤ n)

-- the number of pieces of bytes, and of units, lies within the bounds
abbrev pub BoundsPieces : List ℕ → ℕ × Option ℕ → Type 0
BoundsPieces = BoundsCut utf8

abbrev pub BoundsUnitPieces : List ℕ → ℕ × Option ℕ → Type 0
BoundsUnitPieces = BoundsCut utf16
