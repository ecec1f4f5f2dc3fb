-- Units validated by each one and the one before it.
use Rattle.std.specs.Prelude.{◌≡◌, ◌↔◌, ℕ, ◌+◌, ◌<◌, ◌≤◌, Bool, false, List, All, flat_map, slice_index, ◌*◌, length}
use Rattle.utf_base.specs.Scalar.{IsScalar}
use Rattle.utf_base.specs.Code.{utf16}
use Rattle.utf_base.specs.Units.{is_leading_surrogate, is_trailing_surrogate}
use Rattle.utf_lanes.specs.BytePairs.{units_of, unit_number, high_byte, low_byte}

-- each unit from the offset i on and before j ends a pair if and only if the one before it begins one
abbrev pub AllPaired : List ℕ → ℕ → ℕ → Type 0
AllPaired us i j = (k : ℕ) → i ≤ k + 1 → k + 1 < j → is_leading_surrogate (slice_index us k) ≡ is_trailing_surrogate (slice_index us (k + 1))

-- the first n units pair in this way, and the first of all ends no pair
pub record AreFirstPaired (us : List ℕ) (n : ℕ) : Type 0 where
  pub first : 0 < n → is_trailing_surrogate (slice_index us 0) ≡ false
  pub paired : AllPaired us 1 n

-- a lane is 0 if and only if this holds for the unit of its number, counted from the offset i on
abbrev pub ZerosPair : List ℕ → ℕ → (ℕ → ℕ) → Type 0
ZerosPair us i lane = (k : ℕ) → k < 8 → lane k ≡ 0 ↔ AllPaired us (i + k) (i + k + 1)

-- Eight units in one vector, each after the unit in another, were validated: of its two lanes that of the high byte
-- is 0 if and only if they pair, and the other always.
pub record JudgesPairs (high_first : Bool) (before here v : List ℕ) : Type 0 where
  pub wide : length v ≡ 16
  pub lanes : (k : ℕ) → k < 8 → high_byte high_first v k ≡ 0 ↔ (is_leading_surrogate (unit_number high_first before k) ≡ is_trailing_surrogate (unit_number high_first here k))
  pub others : (k : ℕ) → k < 8 → low_byte high_first v k ≡ 0

-- The eight units from the offset i on were validated, each after the one before it.
pub record AreJudged (high_first : Bool) (us : List ℕ) (i : ℕ) (v : List ℕ) : Type 0 where
  pub wide : length v ≡ 16
  pub lanes : ZerosPair us i (high_byte high_first v)
  pub others : (k : ℕ) → k < 8 → low_byte high_first v k ≡ 0

-- 32 units from the offset i on were validated, eight in each of four vectors
pub record BlockIsJudged (high_first : Bool) (us : List ℕ) (i : ℕ) (v w x y : List ℕ) : Type 0 where
  pub first : AreJudged high_first us i v
  pub second : AreJudged high_first us (i + 8) w
  pub third : AreJudged high_first us (i + 16) x
  pub fourth : AreJudged high_first us (i + 24) y

-- the units are the codes of some scalars
pub record AreCodes (us : List ℕ) : Type 0 where
  pub scalars : List ℕ
  pub all : All IsScalar scalars
  pub codes : us ≡ flat_map utf16 scalars

-- The units from one offset on and before another each pair with the one before them.
pub record PairsTo (high_first : Bool) (bytes : List ℕ) (start end : ℕ) : Type 0 where
  pub least : start ≤ end
  pub within : 2 * end ≤ length bytes
  pub paired : AllPaired (units_of high_first bytes) start end
