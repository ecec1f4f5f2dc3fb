-- The occurrences of codes of scalars in a list, and the one cut of a list into them and single invalid
-- elements. All of it is generic in the code. An offset is an index, counted from the front of the list.
use Rattle.std.specs.Prelude.{◌≡◌, ℕ, ◌+◌, ◌<◌, ◌≤◌, List, length, Option, Some, None, slice_range, All, AllPairs, Contains}
use Rattle.utf_base.specs.Scalar.{IsScalar}

-- the code of the scalar s is in xs at the offset p
pub record Stands (code : ℕ → List ℕ) (xs : List ℕ) (p s : ℕ) : Type 0 where
  pub scalar : IsScalar s
  pub within : p + length (code s) ≤ length xs
  pub equal : slice_range xs p (p + length (code s)) ≡ code s

-- a code that is in xs covers the offset p
pub record Covered (code : ℕ → List ℕ) (xs : List ℕ) (p : ℕ) : Type 0 where
  pub from : ℕ
  pub char : ℕ
  pub stands : Stands code xs from char
  pub begins : from ≤ p
  pub ends : p < from + length (code char)

-- the offset p lies inside a code that is in xs: after its first element, and before its end
pub record Inside (code : ℕ → List ℕ) (xs : List ℕ) (p : ℕ) : Type 0 where
  pub from : ℕ
  pub char : ℕ
  pub stands : Stands code xs from char
  pub begins : from < p
  pub ends : p < from + length (code char)

-- the offset of a piece, the number of its elements, and its scalar, or `None` for a fault
pub record Piece : Type 0 where
  pub start : ℕ
  pub len : ℕ
  pub char : Option ℕ

-- the offset after a piece
abbrev pub end_of : Piece → ℕ
end_of x = x.start + x.len

-- a standing code, or a single element that no standing code covers
abbrev pub IsPieceAt : (ℕ → List ℕ) → List ℕ → ℕ → ℕ → Option ℕ → Type 0
IsPieceAt code xs p n (Some s) = Stands code xs p s × (n ≡ length (code s))
IsPieceAt code xs p n None = (p < length xs) × (n ≡ 1) × (¬ Covered code xs p)

abbrev pub IsPiece : (ℕ → List ℕ) → List ℕ → Piece → Type 0
IsPiece code xs x = IsPieceAt code xs x.start x.len x.char

-- all pieces of xs that begin from the offset i on and before j, in the order of their offsets
pub record IsCutBetween (code : ℕ → List ℕ) (xs : List ℕ) (i j : ℕ) (ps : List Piece) : Type 0 where
  pub pieces : All (λ x. IsPiece code xs x × (i ≤ x.start) × (x.start < j)) ps
  pub all : (x : Piece) → IsPiece code xs x → i ≤ x.start → x.start < j → Contains ps x
  pub in_order : AllPairs (λ x y. x.start < y.start) ps

-- all pieces of xs, in the order of their offsets
abbrev pub IsCut : (ℕ → List ℕ) → List ℕ → List Piece → Type 0
IsCut code xs = IsCutBetween code xs 0 (length xs)
