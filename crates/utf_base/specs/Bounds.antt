-- Bounds of the number of pieces of a list by the number of its elements. Generic in the code.
use Rattle.std.specs.Prelude.{ℕ, ◌*◌, ◌≤◌, List, length}
use Rattle.utf_base.specs.Piece.{Piece, IsCut}

-- a list has no more pieces than elements
abbrev pub NoMorePieces : (ℕ → List ℕ) → Type 0
NoMorePieces code = (xs : List ℕ) (ps : List Piece) → IsCut code xs ps → length ps ≤ length xs

-- a list has at most `most` elements for each piece
abbrev pub NoLongerPieces : (ℕ → List ℕ) → ℕ → Type 0
NoLongerPieces code longest = (xs : List ℕ) (ps : List Piece) → IsCut code xs ps → length xs ≤ longest * length ps
