-- Text in UTF-8 as units of UTF-16: the unit that the byte at an offset gives, by it and the three before it.
use Rattle.std.specs.Prelude.{◌≡◌, ℕ, suc, zero, ◌+◌, ◌-◌, ◌*◌, ◌/◌, ◌%◌, Bool, ◌&&◌, if◌then◌else◌, List, [], ◌∷◌, ◌++◌, nat_lt, nat_eq, slice_index, ◌<◌, ◌≤◌, length, take, drop, count_ones}
use Rattle.std.specs.Int.{bit_at}
use Rattle.utf_lanes.specs.declared.text_units.UnitBytes.{UnitBytes}

-- lists joined, for each number from p on and n of them
unfoldable pub concat_range : (ℕ → List ℕ) → ℕ → ℕ → List ℕ
concat_range f p zero = []
concat_range f p (suc n) = f p ++ concat_range f (suc p) n

-- The byte d gives a unit after the byte c: it ends a code, or is the third of four. No first byte of a longer code does, and
-- no second byte of one of three or four.
abbrev pub ends_unit : ℕ → ℕ → Bool
ends_unit c d = nat_lt d 0xC0 && nat_lt c 0xE0

-- the byte before d, if d continues it
abbrev pub continued_byte : ℕ → ℕ → ℕ
continued_byte c d = if nat_lt d 0x80 then 0 else c

-- Halves of the unit that the byte d gives after b and c, if it ends a code of at most three bytes.
abbrev pub low_half : ℕ → ℕ → ℕ
low_half c d = (d % 128 + continued_byte c d * 64 % 256) % 256

abbrev pub high_half : ℕ → ℕ → ℕ → ℕ
high_half b c d = (continued_byte c d / 4 % 16 + (b - 0xE0) * 16 % 256) % 256

-- Halves of the leading surrogate that the third byte of four gives.
abbrev pub leading_low : ℕ → ℕ → ℕ
leading_low c d = (c % 64 * 4 + d % 64 / 16 + 0xC0) % 256

abbrev pub leading_high : ℕ → ℕ → ℕ → ℕ
leading_high b c d = b % 8 + (if nat_lt (leading_low c d) 0xC0 then 0xD8 else 0xD7)

-- The high half of the trailing surrogate that the fourth byte gives.
abbrev pub trailing_high : ℕ → ℕ
trailing_high c = 0xDC + c / 4 % 4

-- Halves of the unit that the byte d gives after a, b and c.
abbrev pub unit_low : ℕ → ℕ → ℕ → ℕ
unit_low b c d = if nat_lt b 0xF0 then low_half c d else leading_low c d

abbrev pub unit_high : ℕ → ℕ → ℕ → ℕ → ℕ
unit_high a b c d = if nat_lt b 0xF0 then (if nat_lt a 0xF0 then high_half b c d else trailing_high c) else leading_high b c d

-- Halves of the unit that the byte number k gives, counted from the offset on.
abbrev pub unit_low_at : List ℕ → ℕ → ℕ → ℕ
unit_low_at xs place k = unit_low (slice_index xs (place - 2 + k)) (slice_index xs (place - 1 + k)) (slice_index xs (place + k))

abbrev pub unit_high_at : List ℕ → ℕ → ℕ → ℕ
unit_high_at xs place k =
    unit_high (slice_index xs (place - 3 + k)) (slice_index xs (place - 2 + k)) (slice_index xs (place - 1 + k)) (slice_index xs (place + k))

abbrev pub halves : Bool → ℕ → ℕ → List ℕ
halves high_first low high = if high_first then high ∷ low ∷ [] else low ∷ high ∷ []

-- both halves of the unit in the lane k of two vectors
abbrev pub halves_at : Bool → List ℕ → List ℕ → ℕ → List ℕ
halves_at high_first low high k = halves high_first (slice_index low k) (slice_index high k)

-- the bytes that the offset k + 3 gives
unfoldable pub utf16_bytes_at : Bool → List ℕ → ℕ → List ℕ
utf16_bytes_at high_first xs k =
    let a = slice_index xs k in
    let b = slice_index xs (k + 1) in
    let c = slice_index xs (k + 2) in
    let d = slice_index xs (k + 3) in
    if ends_unit c d then halves high_first (unit_low b c d) (unit_high a b c d) else []

-- the units of the sixteen bytes from the offset on, except for those of the first bytes, which are skipped
abbrev pub block_bytes : Bool → List ℕ → ℕ → ℕ → List ℕ
block_bytes high_first xs place skipped = concat_range (utf16_bytes_at high_first xs) (place - 3 + skipped) (16 - skipped)

-- Four vectors have sixteen bytes from the offset on, in the last, and those one, two and three offsets
-- before each.
pub record AreLoaded (a b c d xs : List ℕ) (place : ℕ) : Type 0 where
  pub start : 3 ≤ place
  pub within : place + 16 ≤ length xs
  pub third : a ≡ take 16 (drop (place - 3) xs)
  pub second : b ≡ take 16 (drop (place - 2) xs)
  pub first : c ≡ take 16 (drop (place - 1) xs)
  pub here : d ≡ take 16 (drop place xs)

-- the bytes that half a block gives
abbrev pub given : UnitBytes → List ℕ
given units = take units.len units.bytes

-- A row of offsets below 16, for a mask of at most eight bits: its first `len` are the offsets that the mask
-- keeps of n parts.
pub record IsRow (row : List ℕ) (mask len n : ℕ) (places : ℕ → List ℕ) : Type 0 where
  pub few : count_ones mask ≤ 8
  pub within : (k : ℕ) → k < 16 → slice_index row k < 16
  pub listed : take len row ≡ concat_range places 0 n

-- the offsets of the pair of bytes number i, if the mask has its bit
abbrev pub places_at : ℕ → ℕ → List ℕ
places_at mask i = if nat_eq (bit_at mask i) 1 then 2 * i ∷ (2 * i + 1) ∷ [] else []

-- the pair of bytes number i, if the mask has its bit
abbrev pub pair_at : ℕ → List ℕ → ℕ → List ℕ
pair_at mask pairs i = if nat_eq (bit_at mask i) 1 then slice_index pairs (2 * i) ∷ slice_index pairs (2 * i + 1) ∷ [] else []

-- The bytes that n offsets of some text give, from the offset p on. NULs are taken to precede the text.
abbrev pub utf16_bytes : Bool → List ℕ → ℕ → ℕ → List ℕ
utf16_bytes high_first text p n = concat_range (utf16_bytes_at high_first (0 ∷ 0 ∷ 0 ∷ text)) p n
