-- An offset in some bytes that may be damaged, between two of their pieces.
use Rattle.std.specs.Prelude.{◌≡◌, ℕ, List}
use Rattle.encode_unicode.specs.Code.{utf8}
use Rattle.encode_unicode.specs.Piece.{Piece, IsPiece, end_of}

-- a piece of the bytes begins at i and ends at j
pub record IsStep (xs : List ℕ) (i j : ℕ) : Type 0 where
  pub piece : Piece
  pub is_piece : IsPiece utf8 xs piece
  pub begins : piece.start ≡ i
  pub ends : end_of piece ≡ j
