-- Vectors by their lanes, and masks by their bits.
use Rattle.std.specs.Prelude.{◌≡◌, ℕ, ◌+◌, ◌*◌, ◌/◌, ◌%◌, ◌<◌, Bool, if◌then◌else◌, List, [], ◌∷◌, ◌++◌, length, nat_eq, slice_index, ◌-◌, nat_lt}
use Rattle.std.specs.Int.{bit_at}

-- A vector has n lanes, each with the given value for its number.
pub record AreLanes (n : ℕ) (v : List ℕ) (lane : ℕ → ℕ) : Type 0 where
  pub wide : length v ≡ n
  pub each : (k : ℕ) → k < n → slice_index v k ≡ lane k

-- a vector has eight pairs of lanes, each with the given value for its number
abbrev pub ArePairs : List ℕ → (ℕ → List ℕ) → Type 0
ArePairs v pair = (k : ℕ) → k < 8 → slice_index v (2 * k) ∷ slice_index v (2 * k + 1) ∷ [] ≡ pair k

-- a mask has n bits, each set if the test of its number passes
abbrev pub AreBits : ℕ → ℕ → (ℕ → Bool) → Type 0
AreBits n mask test = (k : ℕ) → k < n → bit_at mask k ≡ (if test k then 1 else 0)

-- The value of a function at the lanes k of two, three and four vectors.
abbrev pub lane_of_two : (ℕ → ℕ → ℕ) → List ℕ → List ℕ → ℕ → ℕ
lane_of_two f v w k = f (slice_index v k) (slice_index w k)

abbrev pub lane_of_three : (ℕ → ℕ → ℕ → ℕ) → List ℕ → List ℕ → List ℕ → ℕ → ℕ
lane_of_three f v w x k = f (slice_index v k) (slice_index w k) (slice_index x k)

abbrev pub lane_of_four : (ℕ → ℕ → ℕ → ℕ → ℕ) → List ℕ → List ℕ → List ℕ → List ℕ → ℕ → ℕ
lane_of_four f v w x y k = f (slice_index v k) (slice_index w k) (slice_index x k) (slice_index y k)

-- all bits set if the lane k is that number, otherwise none
abbrev pub ones_where : ℕ → List ℕ → ℕ → ℕ → ℕ
ones_where ones v number k = if nat_eq (slice_index v k) number then ones else 0

-- the lanes k of two vectors
abbrev pub pair_of_lanes : List ℕ → List ℕ → ℕ → List ℕ
pair_of_lanes v w k = slice_index v k ∷ slice_index w k ∷ []

-- The index of the lane k in four parts of sixteen, of which the first and the third precede the second and the
-- fourth.
abbrev pub half_place : ℕ → ℕ
half_place k = k / 32 * 16 + k / 16 % 2 * 32 + k % 16

-- the lane at that index, if two vectors have the four parts
abbrev pub crossed_lane : List ℕ → List ℕ → ℕ → ℕ
crossed_lane v w k = slice_index (v ++ w) (half_place k)

-- The offset of the byte in the lane k, in a vector with the first bytes of n followed by the last ones.
abbrev pub end_place : ℕ → ℕ → ℕ → ℕ
end_place width n k = if nat_lt k width then k else n - width + (k - width)

-- the byte at that offset
abbrev pub end_byte : ℕ → List ℕ → ℕ → ℕ
end_byte width xs k = slice_index xs (end_place width (length xs) k)

-- each of n lanes is an offset in a row
abbrev pub ArePlaces : ℕ → List ℕ → Type 0
ArePlaces n places = (k : ℕ) → k < n → slice_index places k < 16

-- A vector has n lanes, each with the element of the row at the offset in that lane.
pub record AreLookedUp (n : ℕ) (row places v : List ℕ) : Type 0 where
  pub wide : length v ≡ n
  pub each : (k : ℕ) → k < n → slice_index v k ≡ slice_index row (slice_index places k)
