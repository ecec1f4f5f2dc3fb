-- What invalid input becomes: tables of characters, and the scalars of a list whose faults become these.
use Rattle.std.specs.Prelude.{◌≡◌, ℕ, ◌%◌, ◌<◌, Bool, ◌&&◌, ◌||◌, nat_lt, nat_le, if◌then◌else◌, List, [], ◌∷◌, ◌++◌, Option, Some, None, get_or, slice_get}
use Rattle.std.specs.List.{range_with_len}
use Rattle.utf_base.specs.Code.{utf16}
use Rattle.utf_base.specs.Piece.{Piece, IsCut}
use Rattle.utf_lanes.specs.BytePairs.{units_of}
use Rattle.utf_lanes.specs.Mending.{IsCodeShown, all_shown, scalars_of}

-- the number is a scalar up to 0xFFFF
abbrev pub is_short_scalar : ℕ → Bool
is_short_scalar n = nat_lt n 0xD800 || (nat_le 0xE000 n && nat_lt n 0x1_0000)

-- the character of a number, if it is one up to U+FFFF
abbrev pub short_scalar : ℕ → Option ℕ
short_scalar n = if is_short_scalar n then Some n else None

-- the character of an entry of a table, if there is an entry
abbrev pub char_of_entry : Option ℕ → Option ℕ
char_of_entry None = None
char_of_entry (Some n) = short_scalar n

-- the character that a table has for a byte from 80 on
abbrev pub char_for : List ℕ → ℕ → Option ℕ
char_for table byte = char_of_entry (slice_get table (byte % 0x80))

-- the character for a lone surrogate: U+FFFD, or none if the table is empty
abbrev pub unit_for : List ℕ → Option ℕ
unit_for [] = None
unit_for (n ∷ table) = Some 0xFFFD

-- the codes of the characters that a table has, by the byte
abbrev pub AreCodes : List ℕ → List (List ℕ) → Type 0
AreCodes table codes = (byte : ℕ) → byte < 256 → IsCodeShown (char_for table byte) (get_or codes byte [])

-- the characters of ISO-8859-1 for the bytes from 80 on
abbrev pub latin_1 : List ℕ
latin_1 = range_with_len 0x80 128

-- The characters of Windows-1252 for the bytes from 80 on, by the index of the WHATWG Encoding Standard.
abbrev pub windows_1252 : List ℕ
windows_1252 =
    0x20AC ∷ 0x0081 ∷ 0x201A ∷ 0x0192 ∷ 0x201E ∷ 0x2026 ∷ 0x2020 ∷ 0x2021 ∷
    0x02C6 ∷ 0x2030 ∷ 0x0160 ∷ 0x2039 ∷ 0x0152 ∷ 0x008D ∷ 0x017D ∷ 0x008F ∷
    0x0090 ∷ 0x2018 ∷ 0x2019 ∷ 0x201C ∷ 0x201D ∷ 0x2022 ∷ 0x2013 ∷ 0x2014 ∷
    0x02DC ∷ 0x2122 ∷ 0x0161 ∷ 0x203A ∷ 0x0153 ∷ 0x009D ∷ 0x017E ∷ 0x0178 ∷
    range_with_len 0xA0 96

-- ss are the scalars that the pieces of the one cut of xs show, in order, if `shown` says what a fault becomes
abbrev pub ShowsBy : (ℕ → Option ℕ) → (ℕ → List ℕ) → List ℕ → List ℕ → Type 0
ShowsBy shown code xs ss = (ps : List Piece) × IsCut code xs ps × (ss ≡ all_shown shown xs ps)

-- what an odd last byte becomes
abbrev pub odd_end_by : Option ℕ → List ℕ → List ℕ
odd_end_by shown [] = []
odd_end_by shown (a ∷ []) = scalars_of shown
odd_end_by shown (a ∷ b ∷ bytes) = odd_end_by shown bytes

-- ss are the scalars of the units that the bytes make, if each fault becomes this, and so an odd last byte
abbrev pub ShowsUnitsBy : Option ℕ → Bool → List ℕ → List ℕ → Type 0
ShowsUnitsBy shown high_first bytes ss = (ts : List ℕ) × ShowsBy (λ u. shown) utf16 (units_of high_first bytes) ts × (ss ≡ ts ++ odd_end_by shown bytes)
