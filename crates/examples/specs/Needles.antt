-- Occurrences of one list in another, and the pieces there.
use Rattle.std.specs.Prelude.{◌≡◌, ℕ, ◌+◌, ◌<◌, ◌≤◌, List, length, Some, slice_index, slice_range}
use Rattle.encode_unicode.specs.Code.{utf8}
use Rattle.encode_unicode.specs.Piece.{IsPiece}

-- the needle is in the bytes at the offset p
pub record StandsAt (xs needle : List ℕ) (p : ℕ) : Type 0 where
  pub within : p + length needle ≤ length xs
  pub equal : slice_range xs p (p + length needle) ≡ needle

-- the byte b is a character of its own at the offset p
abbrev pub IsOwnPiece : List ℕ → ℕ → ℕ → Type 0
IsOwnPiece xs p b = IsPiece utf8 xs (record { start = p; len = 1; char = Some b })

-- each byte of the needle is a character of its own there
abbrev pub AreOwnPieces : List ℕ → List ℕ → ℕ → Type 0
AreOwnPieces xs needle p = (k : ℕ) → k < length needle → IsOwnPiece xs (p + k) (slice_index needle k)
