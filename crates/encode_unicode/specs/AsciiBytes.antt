-- A byte below 0x80 in some bytes, and the piece that it is.
use Rattle.std.specs.Prelude.{ℕ, ◌<◌, List, length, Ok, Some, slice_index}
use Rattle.utf_base.specs.Piece.{Piece}
use Rattle.encode_unicode.specs.Window.{Item}

-- an ASCII byte is at the offset p
abbrev pub IsAsciiAt : List ℕ → ℕ → Type 0
IsAsciiAt xs p = (p < length xs) × (slice_index xs p < 0x80)

-- the character of the byte at the offset p, as a decoder gives it, and as a piece
abbrev pub ascii_item : List ℕ → ℕ → Item
ascii_item xs p = (p, Ok (slice_index xs p), 1)

abbrev pub ascii_piece : List ℕ → ℕ → Piece
ascii_piece xs p = record { start = p; len = 1; char = Some (slice_index xs p) }
