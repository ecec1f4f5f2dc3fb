-- Windows of 64 bytes of which each is ASCII, or is invalid by itself.
use Rattle.std.specs.Prelude.{◌≡◌, ℕ, ◌<◌, Bool, if◌then◌else◌, List, nat_le, nat_lt, slice_index, take, Option, Some, None, count_by}
use Rattle.utf_lanes.specs.Mending.{IsMendedAt}
use Rattle.utf_lanes.specs.Utf8ToUtf16.{halves}

-- the character that a byte is by itself, if it is one
abbrev pub char_alone : ℕ → Option ℕ
char_alone byte = if nat_lt byte 0x80 then Some byte else None

-- Each of the first 64 bytes is a character of ASCII, or is replaced by itself, and this many are replaced.
pub record ArePlain (xs : List ℕ) (replaced : ℕ) : Type 0 where
  pub each : (subparts : Bool) (k : ℕ) → k < 64 → IsMendedAt subparts xs k 1 (char_alone (slice_index xs k))
  pub count : replaced ≡ count_by (nat_le 0x80) (take 64 xs)

-- the unit of a byte that is ASCII, or is replaced by U+FFFD
abbrev pub plain_unit : Bool → ℕ → List ℕ
plain_unit high_first byte = if nat_lt byte 0x80 then halves high_first byte 0 else halves high_first 0xFD 0xFF
