-- UTF-16 as RFC 2781, section 2, specifies it, step by step. `U`, `U'`, `W1` and `W2` are the names that it uses.
use Rattle.std.specs.Prelude.{◌≡◌, ℕ, ◌+◌, ◌-◌, ◌*◌, ◌^◌, ◌%◌, ◌<◌, ◌≤◌, ◌&&◌, ◌||◌, not, nat_lt, nat_le, ◌==◌, if◌then◌else◌, List, [], ◌∷◌, length, slice_index, Option, Some, None}

-- "4) Assign the 10 high-order bits of the 20-bit U' to the 10 low-order bits of W1 and the 10 low-order bits of U'
-- to the 10 low-order bits of W2"; W1 and W2 begin as 0xD800 and 0xDC00
pub record IsPairOf (u' : ℕ) (units : List ℕ) : Type 0 where
  pub high : ℕ
  pub low : ℕ
  pub ten_high : high < 2 ^ 10
  pub ten_low : low < 2 ^ 10
  pub twenty : u' ≡ high * 2 ^ 10 + low
  pub pair : units ≡ (0xD800 + high) ∷ (0xDC00 + low) ∷ []

-- section 2.1, "Encoding UTF-16": "1) If U < 0x10000, encode U as a 16-bit unsigned integer and terminate. 2) Let
-- U' = U - 0x10000", of which the steps above make two units
pub record IsEncodedAs (u : ℕ) (units : List ℕ) : Type 0 where
  pub alone : u < 0x1_0000 → units ≡ u ∷ []
  pub paired : 0x1_0000 ≤ u → IsPairOf (u - 0x1_0000) units

-- section 2.2, "Decoding UTF-16", of the units that W1 begins: `None` if "the sequence is in error"
unfoldable pub decoded_by_steps : List ℕ → Option ℕ
decoded_by_steps w =
    -- "1) If W1 < 0xD800 or W1 > 0xDFFF, the character value U is the value of W1."
    if nat_lt (slice_index w 0) 0xD800 || nat_lt 0xDFFF (slice_index w 0) then Some (slice_index w 0)
    -- "2) Determine if W1 is between 0xD800 and 0xDBFF. If not, the sequence is in error"
    else if not (nat_le 0xD800 (slice_index w 0) && nat_le (slice_index w 0) 0xDBFF) then None
    -- "3) If there is no W2, or if W2 is not between 0xDC00 and 0xDFFF, the sequence is in error."
    else if length w == 1 || not (nat_le 0xDC00 (slice_index w 1) && nat_le (slice_index w 1) 0xDFFF) then None
    -- "4) Construct a 20-bit unsigned integer U', taking the 10 low-order bits of W1 as its 10 high-order bits and the 10
    -- low-order bits of W2 as its 10 low-order bits. 5) Add 0x10000 to U' to obtain the character value U."
    else Some (0x1_0000 + (slice_index w 0 % 2 ^ 10 * 2 ^ 10 + slice_index w 1 % 2 ^ 10))
