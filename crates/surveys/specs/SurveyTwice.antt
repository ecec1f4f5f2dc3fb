-- The windows in which a sequence that was encoded twice may begin.
use Rattle.std.specs.Prelude.{ℕ, Bool, ◌&&◌, ◌||◌, nat_le, ◌==◌, List, slice_index}

-- The byte at the offset is C3, as that of each character from U+00C2 to U+00F4, and the next character begins as one that
-- a continuation byte becomes: with C2, or with a byte from C5 on.
unfoldable pub may_be_twice : List ℕ → Bool
may_be_twice w = slice_index w 3 == 0xC3 && (slice_index w 5 == 0xC2 || nat_le 0xC5 (slice_index w 5))
