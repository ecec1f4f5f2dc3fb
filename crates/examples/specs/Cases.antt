-- Bytes that are equal but for the case of ASCII letters.
use Rattle.std.specs.Prelude.{◌≡◌, ℕ, List, Option, option_map}
use Rattle.std.specs.Char.{to_ascii_lowercase}
use Rattle.encode_unicode.specs.Code.{utf8}
use Rattle.encode_unicode.specs.Piece.{Piece, IsPiece}

-- each piece of the one list is in the other too, at the same offset and as long: a fault if it is a fault, and
-- otherwise a character that is equal but for case
abbrev pub ArePiecesAlike : List ℕ → List ℕ → Type 0
ArePiecesAlike xs ys =
    (x : Piece) → IsPiece utf8 xs x
    → (c : Option ℕ) × IsPiece utf8 ys (record x { char = c }) × (option_map to_ascii_lowercase c ≡ option_map to_ascii_lowercase x.char)
