-- Bytes of ordinary text, which only counts of UTF-8 take.
use Rattle.std.specs.Prelude.{◌≡◌, ℕ, ◌<◌, ◌≤◌, Bool, true, not, ◌&&◌, ◌||◌, nat_lt, nat_le, List, slice_index, Option, Some, None}
use Rattle.utf_base.specs.Units.{is_leading_surrogate}
use Rattle.surveys.specs.declared.unit_counts.UnitParts.{UnitParts}

-- no control but some of those in text, no FF, and no high byte of a surrogate
unfoldable pub is_ordinary : ℕ → Bool
is_ordinary b = nat_le 7 b && nat_lt b 14 || nat_le 32 b && nat_lt b 0xD8 || nat_le 0xE0 b && nat_lt b 0xFF

-- an ordinary byte below 80
abbrev pub is_ordinary_ascii : ℕ → Bool
is_ordinary_ascii b = is_ordinary b && nat_lt b 0x80

-- no control but some of those in text, and no FF: an ordinary byte, or the high byte of a surrogate
unfoldable pub is_uncontrolled : ℕ → Bool
is_uncontrolled b = nat_le 7 b && nat_lt b 14 || nat_le 32 b && nat_lt b 0xFF

-- the bytes from the offset i on and before j are of a class
abbrev pub AreAll : (ℕ → Bool) → List ℕ → ℕ → ℕ → Type 0
AreAll p xs i j = (k : ℕ) → i ≤ k → k < j → p (slice_index xs k) ≡ true

-- the bytes from the offset i on and before j are ordinary
abbrev pub AreOrdinary : List ℕ → ℕ → ℕ → Type 0
AreOrdinary = AreAll is_ordinary

-- the byte is ordinary, if there is one
abbrev pub is_odd_ordinary : Option ℕ → Bool
is_odd_ordinary None = true
is_odd_ordinary (Some b) = is_ordinary b

-- the last unit begins no pair, and a byte after it is ordinary
unfoldable pub is_after_ordinary : UnitParts → Bool
is_after_ordinary s = not (is_leading_surrogate s.before) && is_odd_ordinary s.odd
