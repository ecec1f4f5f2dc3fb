-- Damaged units as text: U+FFFD in place of each lone surrogate.
use Rattle.std.specs.Prelude.{◌≡◌, ℕ, zero, suc, ◌+◌, ◌<◌, ◌≤◌, Bool, true, false, not, ◌&&◌, ◌||◌, nat_lt, if◌then◌else◌, List, length, slice_index}
use Rattle.utf_base.specs.Units.{is_leading_surrogate, is_trailing_surrogate}
use Rattle.utf_lanes.specs.UnitCodes.{lane_unit, AreText}
use Rattle.utf_lanes.specs.declared.unit_mending.MendedUnits.{MendedUnits}

-- the number before k has the property
abbrev pub holds_before : (ℕ → Bool) → ℕ → Bool
holds_before holds zero = false
holds_before holds (suc k) = holds k

-- of n units, that of the number k leads, and the next does not trail; or it trails, and the one before does not lead
abbrev pub is_unpaired : ℕ → (ℕ → Bool) → (ℕ → Bool) → ℕ → Bool
is_unpaired n leads trails k = (leads k && (nat_lt (k + 1) n && not (trails (k + 1)))) || (trails k && not (holds_before leads k))

-- Of n units, that of the number k is a lone surrogate. What follows a leading surrogate at the end decides whether it is one.
abbrev pub is_lone : ℕ → (ℕ → ℕ) → ℕ → Bool
is_lone n unit = is_unpaired n (λ k. is_leading_surrogate (unit k)) (λ k. is_trailing_surrogate (unit k))

-- the unit of the number k of n, or U+FFFD in place of a lone surrogate
abbrev pub mended_unit : ℕ → (ℕ → ℕ) → ℕ → ℕ
mended_unit n unit k = if is_lone n unit k then 0xFFFD else unit k

-- how many of the n numbers from k on have the property
unfoldable pub count_from : (ℕ → Bool) → ℕ → ℕ → ℕ
count_from holds k zero = 0
count_from holds k (suc n) = (if holds k then 1 else 0) + count_from holds (suc k) n

-- The first of 32 units are text: all, or all but a leading surrogate at the end. Two vectors have the halves of the units.
pub record AreTextUnits (low high : List ℕ) (len : ℕ) : Type 0 where
  pub low_len : length low ≡ 32
  pub high_len : length high ≡ 32
  pub low_fits : (k : ℕ) → k < 32 → slice_index low k < 256
  pub high_fits : (k : ℕ) → k < 32 → slice_index high k < 256
  pub least : 31 ≤ len
  pub most : len ≤ 32
  pub text : AreText (lane_unit low high) len
  pub last : len + 1 ≡ 32 → is_leading_surrogate (lane_unit low high len) ≡ true

-- 32 units, at whose front a piece begins, were mended.
pub record MendsUnits (low high : List ℕ) (made : MendedUnits) : Type 0 where
  pub text : AreTextUnits made.low made.high made.len
  pub units : (k : ℕ) → k < 32 → lane_unit made.low made.high k ≡ mended_unit 32 (lane_unit low high) k
  pub count : made.replaced ≡ count_from (is_lone 32 (lane_unit low high)) 0 made.len
