-- Units of UTF-16 as bytes of UTF-8: the bytes that a unit gives, by it and the one before it.
use Rattle.std.specs.Prelude.{◌≡◌, ℕ, ◌<◌, ◌+◌, ◌-◌, ◌*◌, Bool, true, false, ◌/◌, ◌%◌, if◌then◌else◌, List, [], ◌∷◌, ◌++◌, nat_lt, nat_eq, slice_index, ◌≤◌, length, take}
use Rattle.std.specs.Int.{bit_at}
use Rattle.utf_lanes.specs.Utf8ToUtf16.{concat_range}
use Rattle.utf_lanes.specs.declared.slots.Row.{Row}
use Rattle.utf_lanes.specs.declared.slots.Rows.{Rows}
use Rattle.utf_base.specs.Units.{is_leading_surrogate, is_trailing_surrogate, is_surrogate}

-- the unit in the lane k, of which two vectors have the halves
abbrev pub lane_unit : List ℕ → List ℕ → ℕ → ℕ
lane_unit low high k = slice_index high k * 256 + slice_index low k

-- the value of a function at that unit, after the byte in the lane k of another vector
abbrev pub lane_after : (ℕ → ℕ → ℕ) → List ℕ → List ℕ → List ℕ → ℕ → ℕ
lane_after f before low high k = f (slice_index before k) (lane_unit low high k)

-- The bytes of a unit that is a character: the last, and those before it, 0 if there is none.
abbrev pub first_byte : ℕ → ℕ
first_byte u = if nat_lt u 0x800 then 0 else 0xE0 + u / 4096

abbrev pub middle_byte : ℕ → ℕ
middle_byte u = if nat_lt u 0x80 then 0 else if nat_lt u 0x800 then 0xC0 + u / 64 else 0x80 + u / 64 % 64

abbrev pub last_byte : ℕ → ℕ
last_byte u = if nat_lt u 0x80 then u else 0x80 + u % 64

-- The first two bytes of four, which a leading surrogate gives, and the third, which a trailing one gives after the unit p.
abbrev pub lead_byte : ℕ → ℕ
lead_byte u = 0xF0 + (u % 1024 + 64) / 256

abbrev pub second_byte : ℕ → ℕ
second_byte u = 0x80 + (u % 1024 + 64) / 4 % 64

abbrev pub third_byte : ℕ → ℕ → ℕ
third_byte p u = 0x80 + p % 4 * 16 + u / 64 % 16

-- The bytes of any unit in text, after the unit p.
abbrev pub first_in_text : ℕ → ℕ
first_in_text u = if is_surrogate u then 0 else first_byte u

abbrev pub middle_in_text : ℕ → ℕ → ℕ
middle_in_text p u = if is_leading_surrogate u then lead_byte u else if is_surrogate u then third_byte p u else middle_byte u

abbrev pub last_in_text : ℕ → ℕ
last_in_text u = if is_leading_surrogate u then second_byte u else last_byte u

-- The bytes of a slot: the last, and those before it that are at least 0x80.
abbrev pub nonzero_lead : ℕ → List ℕ
nonzero_lead b = if nat_lt b 0x80 then [] else b ∷ []

abbrev pub lane_bytes : ℕ → ℕ → ℕ → List ℕ
lane_bytes first middle last = nonzero_lead first ++ (nonzero_lead middle ++ (last ∷ []))

-- the bytes of the unit u in text, after the unit p
abbrev pub unit_code : ℕ → ℕ → List ℕ
unit_code p u = lane_bytes (first_in_text u) (middle_in_text p u) (last_in_text u)

-- the bytes of the unit number k
abbrev pub code_at : (ℕ → ℕ) → ℕ → List ℕ
code_at unit k = unit_code (unit (k - 1)) (unit k)

-- The first n units are text: each leading surrogate has a trailing one after it, and each trailing one a leading one before it.
pub record AreText (unit : ℕ → ℕ) (n : ℕ) : Type 0 where
  pub first : 0 < n → is_trailing_surrogate (unit 0) ≡ false
  pub leading : (k : ℕ) → k < n → is_leading_surrogate (unit k) ≡ true → (k + 1 < n) × (is_trailing_surrogate (unit (k + 1)) ≡ true)
  pub trailing : (k : ℕ) → k + 1 < n → is_trailing_surrogate (unit (k + 1)) ≡ true → is_leading_surrogate (unit k) ≡ true

-- The bytes were written into a buffer, from one offset to another, and those before them stay.
pub record Writes (old new : List ℕ) (at end : ℕ) (bytes : List ℕ) : Type 0 where
  pub len : length new ≡ length old
  pub front : take end new ≡ take at old ++ bytes

-- None of the units is a surrogate; a vector has their high halves.
abbrev pub AreCharacters : ℕ → List ℕ → Type 0
AreCharacters n high = (k : ℕ) → k < n → nat_eq (slice_index high k / 8) 0x1B ≡ false

-- The first n of `width` units are text, and their bytes were written into a buffer, from one offset to
-- another.
pub record WritesUnits (width : ℕ) (low high old new : List ℕ) (at n end : ℕ) : Type 0 where
  pub most : n ≤ width
  pub text : AreText (lane_unit low high) n
  pub len : length new ≡ length old
  pub bytes : take end new ≡ take at old ++ concat_range (code_at (lane_unit low high)) 0 n
  pub short : end ≤ at + 6 * n
  pub fits : end ≤ at + 3 * width

-- the slot in the lane k of three vectors
abbrev pub slot_at : List ℕ → List ℕ → List ℕ → ℕ → List ℕ
slot_at firsts middles lasts k = lane_bytes (slice_index firsts k) (slice_index middles k) (slice_index lasts k)

-- the bytes of n slots
abbrev pub slots_of : ℕ → List ℕ → List ℕ → List ℕ → List ℕ
slots_of n firsts middles lasts = concat_range (slot_at firsts middles lasts) 0 n

-- the byte if the mask has its bit
abbrev pub marked : ℕ → ℕ → ℕ → List ℕ
marked mask i byte = if nat_eq (bit_at mask i) 1 then byte ∷ [] else []

-- The slot number i of four bytes: the first, the last, the middle one and any. The mask says which of the first and
-- middle are kept. If they are short, a slot is a pair: the last, and the one before it if the mask has its bit.
abbrev pub row_places : Bool → ℕ → ℕ → List ℕ
row_places true mask i = marked mask i (2 * i) ++ ((2 * i + 1) ∷ [])
row_places false mask i = marked mask (2 * i) (4 * i) ++ (marked mask (2 * i + 1) (4 * i + 2) ++ ((4 * i + 1) ∷ []))

abbrev pub row_bytes : Bool → ℕ → List ℕ → ℕ → List ℕ
row_bytes true mask lanes i = marked mask i (slice_index lanes (2 * i)) ++ (slice_index lanes (2 * i + 1) ∷ [])
row_bytes false mask lanes i =
    marked mask (2 * i) (slice_index lanes (4 * i)) ++ (marked mask (2 * i + 1) (slice_index lanes (4 * i + 2)) ++ (slice_index lanes (4 * i + 1) ∷ []))

-- the number of slots in a vector, and the greatest number of their bytes that are kept
abbrev pub row_slots : Bool → ℕ
row_slots short = if short then 8 else 4

abbrev pub row_most : Bool → ℕ
row_most short = if short then 16 else 12

-- the bytes of its slots that the mask keeps
abbrev pub row_of : Bool → ℕ → List ℕ → List ℕ
row_of short mask lanes = concat_range (row_bytes short mask lanes) 0 (row_slots short)

-- the slot in the lane k of two vectors
abbrev pub lanes_at : Bool → List ℕ → List ℕ → ℕ → List ℕ
lanes_at true middles lasts k = nonzero_lead (slice_index middles k) ++ (slice_index lasts k ∷ [])
lanes_at false fronts lasts k = lane_bytes (slice_index fronts (2 * k)) (slice_index fronts (2 * k + 1)) (slice_index lasts (2 * k))

-- the bytes of all their slots, twice as many as one vector has
abbrev pub lanes_of : Bool → List ℕ → List ℕ → List ℕ
lanes_of short fronts lasts = concat_range (lanes_at short fronts lasts) 0 (row_slots short + row_slots short)

-- the bytes of n slots in which none has three
abbrev pub short_slots_of : ℕ → List ℕ → List ℕ → List ℕ
short_slots_of n middles lasts = concat_range (lanes_at true middles lasts) 0 n

-- The bytes of a row that count, and those of two rows.
abbrev pub row_given : Row → List ℕ
row_given row = take row.len row.bytes

abbrev pub rows_given : Rows → List ℕ
rows_given rows = row_given rows.low ++ row_given rows.high
