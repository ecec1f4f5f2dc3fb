-- The pieces, lines and faults of a text, by number or offset.
use Rattle.std.specs.Prelude.{◌≡◌, ℕ, ◌+◌, ◌-◌, ◌<◌, ◌≤◌, List, length, take, None, slice_index}
use Rattle.utf_base.specs.Code.{utf8}
use Rattle.utf_base.specs.Piece.{Piece, IsPiece}
use Rattle.encode_unicode.specs.Window.{Item}
use Rattle.text_runs.specs.ShardRuns.{line_feed_count}

-- what contracts see of a cursor: the bytes of the text, and an offset between two of its pieces
pub record TextPlace : Type 0 where
  pub text : List ℕ
  pub offset : ℕ

-- the piece has the byte at the offset
abbrev pub HasPlace : ℕ → Item → Type 0
HasPlace p x = (x.0 ≤ p) × (p < x.0 + x.2)

-- the line with that number begins at the offset p: as many line feeds precede it, and if p is not 0, one of
-- them directly
pub record IsLineStart (xs : List ℕ) (line p : ℕ) : Type 0 where
  pub within : p ≤ length xs
  pub number : line_feed_count (take p xs) ≡ line
  pub begins : 0 < p → slice_index xs (p - 1) ≡ 0x0A

-- the first fault of the bytes that is not before the offset i is at the offset p
pub record IsNextFault (xs : List ℕ) (i p : ℕ) : Type 0 where
  pub fault : IsPiece utf8 xs (record { start = p; len = 1; char = None })
  pub after : i ≤ p
  pub first : (x : Piece) → IsPiece utf8 xs x → x.char ≡ None → i ≤ x.start → p ≤ x.start

-- each fault of the bytes is before the offset i
abbrev pub HasNoFaultFrom : List ℕ → ℕ → Type 0
HasNoFaultFrom xs i = (x : Piece) → IsPiece utf8 xs x → x.char ≡ None → x.start < i

-- the last fault of the bytes that is before the offset i is at the offset p
pub record IsPreviousFault (xs : List ℕ) (i p : ℕ) : Type 0 where
  pub fault : IsPiece utf8 xs (record { start = p; len = 1; char = None })
  pub before : p < i
  pub last : (x : Piece) → IsPiece utf8 xs x → x.char ≡ None → x.start < i → x.start ≤ p

-- no fault of the bytes is before the offset i
abbrev pub HasNoFaultBefore : List ℕ → ℕ → Type 0
HasNoFaultBefore xs i = (x : Piece) → IsPiece utf8 xs x → x.char ≡ None → i ≤ x.start
