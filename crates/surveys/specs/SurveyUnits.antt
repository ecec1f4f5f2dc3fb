-- Counts of bytes as units of UTF-16.
use Rattle.std.specs.Prelude.{◌≡◌, ℕ, zero, suc, ◌+◌, ◌*◌, Bool, not, ◌&&◌, ◌||◌, nat_lt, nat_le, ◌==◌, if◌then◌else◌, List, [], ◌∷◌, ◌++◌, count_by, slice_index, Option, Some, None}
use Rattle.utf_base.specs.Units.{is_leading_surrogate, is_trailing_surrogate}
use Rattle.utf_lanes.specs.BytePairs.{units_of}
use Rattle.surveys.specs.declared.unit_counts.UnitCounts.{UnitCounts}
use Rattle.surveys.specs.declared.unit_counts.UnitParts.{UnitParts}
use Rattle.surveys.specs.SurveyCounts.{number, wrapped}

-- the unit occurs in nearly every text: tab, LF, CR, U+0020 to U+007E, U+3001, U+3002 and U+FF0C
unfoldable pub is_plain : ℕ → Bool
is_plain u = nat_le 0x20 u && nat_lt u 0x7F || u == 9 || u == 10 || u == 13 || u == 0x3001 || u == 0x3002 || u == 0xFF0C

-- the unit does not occur in text: a control, U+FFFE or U+FFFF
unfoldable pub is_stray : ℕ → Bool
is_stray u = nat_lt u 7 || nat_le 14 u && nat_lt u 27 || nat_le 28 u && nat_lt u 32 || nat_le 0xFFFE u

-- the first unit begins a pair that the second does not end, or the second ends one that the first does not begin
unfoldable pub is_unpaired : ℕ → ℕ → Bool
is_unpaired before u = if is_leading_surrogate before then not (is_trailing_surrogate u) else is_trailing_surrogate u

-- the number of units that do not go together with the one before
unfoldable pub unpaired_after : ℕ → List ℕ → ℕ
unpaired_after before [] = 0
unpaired_after before (u ∷ us) = number (is_unpaired before u) + unpaired_after u us

-- the same of two units, as their high bytes show
unfoldable pub are_highs_unpaired : ℕ → ℕ → Bool
are_highs_unpaired a b =
    if nat_le 0xD8 a && nat_lt a 0xDC then not (nat_le 0xDC b && nat_lt b 0xE0)
    else nat_le 0xDC b && nat_lt b 0xE0

-- the number of units that do not go together with the one before, as their high bytes show: every second byte from the first on
unfoldable pub unpaired_highs : List ℕ → ℕ
unpaired_highs [] = 0
unpaired_highs (a ∷ []) = 0
unpaired_highs (a ∷ b ∷ []) = 0
unpaired_highs (a ∷ b ∷ c ∷ bytes) = number (are_highs_unpaired a c) + unpaired_highs (c ∷ bytes)

-- in how many of the first n rows of 32 bytes the byte at the offset k and the second one after it do not go together
unfoldable pub lane_count : List ℕ → ℕ → ℕ → ℕ
lane_count bytes k zero = 0
lane_count bytes k (suc n) = lane_count bytes k n + number (are_highs_unpaired (slice_index bytes (32 * n + k)) (slice_index bytes (32 * n + k + 2)))

-- counts of nothing
abbrev pub no_units : UnitCounts
no_units = record { plain = 0; stray = 0; unpaired = 0 }

-- the counts with those of some units, which follow a given one
unfoldable pub units_from : UnitCounts → ℕ → List ℕ → UnitCounts
units_from c before us = record {
  plain = wrapped (c.plain + count_by is_plain us);
  stray = wrapped (c.stray + count_by is_stray us);
  unpaired = wrapped (c.unpaired + unpaired_after before us);
}

-- the byte, if there is one
abbrev pub odd_byte : Option ℕ → List ℕ
odd_byte None = []
odd_byte (Some b) = b ∷ []

-- the counts of all input if some bytes follow, and then it ends
unfoldable pub units_with : Bool → UnitParts → List ℕ → UnitCounts
units_with high_first s later = units_from s.counts s.before (units_of high_first (odd_byte s.odd ++ later))

-- the counts of all input are the same, whatever follows a part that was fed
abbrev pub FeedsUnits : Bool → UnitParts → List ℕ → UnitParts → Type 0
FeedsUnits high_first old part new = (later : List ℕ) → units_with high_first new later ≡ units_with high_first old (part ++ later)

-- the counts of all units are the same, whatever follows one that was counted
abbrev pub SeesUnit : UnitParts → ℕ → UnitParts → Type 0
SeesUnit old u new = (us : List ℕ) → units_from new.counts new.before us ≡ units_from old.counts old.before (u ∷ us)

-- the counts of all units are the same, whatever follows some that were counted
abbrev pub SeesUnits : UnitParts → List ℕ → UnitParts → Type 0
SeesUnits old us new = (later : List ℕ) → units_from new.counts new.before later ≡ units_from old.counts old.before (us ++ later)

-- after a given unit, n of these do not go together with the one before, whatever follows the last of them
abbrev pub AddsUnpaired : ℕ → List ℕ → ℕ → ℕ → Type 0
AddsUnpaired before us n last = (later : List ℕ) → unpaired_after before (us ++ later) ≡ n + unpaired_after last later
