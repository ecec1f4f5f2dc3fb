-- The first character of a text in upper case.
use Rattle.std.specs.Prelude.{◌≡◌, ℕ, List}
use Rattle.encode_unicode.specs.Code.{utf8}
use Rattle.encode_unicode.specs.Piece.{Stands}
use Rattle.encode_unicode.specs.Chars.{ascii_uppercase}

-- a character begins the text, and c is its scalar in upper case
abbrev pub IsInitial : List ℕ → ℕ → Type 0
IsInitial text c = (s : ℕ) × Stands utf8 text 0 s × (c ≡ ascii_uppercase s)
