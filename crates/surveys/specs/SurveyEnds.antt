-- What the first and the last bytes of an input show, and the bytes that do not occur in text.
use Rattle.std.specs.Prelude.{ℕ, ◌-◌, Bool, not, ◌&&◌, ◌||◌, nat_lt, nat_le, ◌==◌, if◌then◌else◌, List, [], ◌∷◌, ◌++◌, drop, slice_index, take}
use Rattle.utf_base.specs.Kinds.{is_continuation}
use Rattle.surveys.specs.SurveyWindows.{front_len}

-- the byte 00
abbrev pub is_nul : ℕ → Bool
is_nul b = b == 0

-- a control that does not occur in text: not 00, nor 07 to 0D, nor ESC
abbrev pub is_control : ℕ → Bool
is_control b = nat_le 1 b && nat_lt b 7 || nat_le 14 b && nat_lt b 27 || nat_le 28 b && nat_lt b 32

-- the first four bytes, with zeros for those that are missing
unfoldable pub first_four : List ℕ → List ℕ
first_four bytes = take 4 (bytes ++ 0 ∷ 0 ∷ 0 ∷ 0 ∷ [])

-- the number of continuation bytes before any other byte, at most three: the rest of a character
unfoldable pub head_len : List ℕ → ℕ
head_len front =
    if not (is_continuation (slice_index front 0)) then 0
    else if not (is_continuation (slice_index front 1)) then 1
    else if not (is_continuation (slice_index front 2)) then 2
    else 3

-- the last n of three bytes, with some after them, begin a character of more than n bytes
unfoldable pub is_begun : ℕ → List ℕ → Bool
is_begun n bytes = nat_lt n (front_len (drop (3 - n) bytes))

-- the last n of three bytes begin a character whose other bytes are missing: continuation bytes complete it, the
-- least of them or the greatest
unfoldable pub is_front : ℕ → List ℕ → Bool
is_front n bytes = is_begun n (bytes ++ 0x80 ∷ 0x80 ∷ 0x80 ∷ 0x80 ∷ []) || is_begun n (bytes ++ 0xBF ∷ 0xBF ∷ 0xBF ∷ 0xBF ∷ [])

-- the number of bytes at the end of three that begin a character whose other bytes are missing
unfoldable pub tail_len : List ℕ → ℕ
tail_len bytes = if is_front 3 bytes then 3 else if is_front 2 bytes then 2 else if is_front 1 bytes then 1 else 0
