-- Units that begin a piece: all but those that end a pair.
use Rattle.std.specs.Prelude.{◌≡◌, ℕ, ◌+◌, ◌-◌, ◌%◌, ◌<◌, Bool, true, not, ◌&&◌, nat_eq, bit_and, List, count_by, length, slice_index}
use Rattle.std.specs.List.{range_with_len}
use Rattle.utf_base.specs.Units.{is_leading_surrogate, is_trailing_surrogate}

-- the number of offsets before this one at which the test is true
abbrev pub place_count : (ℕ → Bool) → ℕ → ℕ
place_count is n = count_by is (range_with_len 0 n)

-- a unit ends no pair with the one before it
abbrev pub is_start_after : ℕ → ℕ → Bool
is_start_after before unit = not (is_leading_surrogate before && is_trailing_surrogate unit)

-- the unit at the offset ends no pair; the first ends none, since no unit both begins a pair and ends one
abbrev pub is_unit_start : List ℕ → ℕ → Bool
is_unit_start us k = is_start_after (slice_index us (k - 1)) (slice_index us k)

-- the number of units before the offset that end no pair
abbrev pub unit_start_count : List ℕ → ℕ → ℕ
unit_start_count us n = place_count (is_unit_start us) n

-- a unit that ends no pair is at the offset, and `number` such units precede it
pub record IsUnitStartOf (us : List ℕ) (number place : ℕ) : Type 0 where
  pub within : place < length us
  pub start : is_unit_start us place ≡ true
  pub before : unit_start_count us place ≡ number

-- two units are a pair, by the high byte of each
abbrev pub are_pair : ℕ → ℕ → Bool
are_pair first second = nat_eq (bit_and first 0xFC) 0xD8 && nat_eq (bit_and second 0xFC) 0xDC

-- the byte at a distance from an offset is the high byte of a unit that ends a pair, if each unit has its
-- high byte at that distance from its first
abbrev pub ends_pair : ℕ → List ℕ → ℕ → ℕ → Bool
ends_pair high bytes place i = nat_eq (i % 2) high && are_pair (slice_index bytes (place + i - 2)) (slice_index bytes (place + i))
