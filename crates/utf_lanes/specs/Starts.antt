-- Bytes that begin a code: in text, one for each character.
use Rattle.std.specs.Prelude.{◌≡◌, ℕ, ◌<◌, Bool, true, not, List, count_by, length, slice_index, take}
use Rattle.utf_base.specs.Kinds.{is_continuation}

-- no continuation byte
abbrev pub is_start : ℕ → Bool
is_start b = not (is_continuation b)

-- the number of bytes that begin a code
abbrev pub start_count : List ℕ → ℕ
start_count xs = count_by is_start xs

-- a byte that begins a code is at the offset, and `number` such bytes precede it
pub record IsStartOf (xs : List ℕ) (number place : ℕ) : Type 0 where
  pub within : place < length xs
  pub start : is_start (slice_index xs place) ≡ true
  pub before : start_count (take place xs) ≡ number
