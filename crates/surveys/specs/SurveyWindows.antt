-- What the window of an offset shows: the 17 bytes of which the fourth is the one at the offset.
use Rattle.std.specs.Prelude.{ℕ, zero, suc, ◌+◌, ◌-◌, Bool, true, not, ◌&&◌, ◌||◌, nat_lt, nat_le, ◌==◌, if◌then◌else◌, List, [], ◌∷◌, drop, slice_index, Result, Ok, Err}
use Rattle.std.specs.List.{list_any}
use Rattle.utf_base.specs.Decoded.{decoded}
use Rattle.utf_base.specs.Kinds.{asked, is_continuation}
use Rattle.utf_base.specs.declared.errors.Utf8ErrorKind.{Utf8ErrorKind}

-- the length in bytes of a character that was decoded, or 0
abbrev pub len_of : Result (ℕ × ℕ) Utf8ErrorKind → ℕ
len_of (Ok x) = x.1
len_of (Err e) = 0

-- the length in bytes of the character that begins the bytes, or 0
unfoldable pub front_len : List ℕ → ℕ
front_len w = len_of (decoded w)

-- a character that begins that many bytes before the offset covers it
abbrev pub covers : ℕ → List ℕ → Bool
covers back w = nat_lt back (front_len (drop (3 - back) w))

-- no character covers the offset: its byte is invalid
unfoldable pub is_fault : List ℕ → Bool
is_fault w = not (covers 0 w || covers 1 w || covers 2 w || covers 3 w)

-- a character of several bytes begins at the offset
unfoldable pub is_char : List ℕ → Bool
is_char w = nat_lt 1 (front_len (drop 3 w))

-- the two bytes before the offset are above 7F, and the one at the offset is not A0
unfoldable pub follows_two : List ℕ → Bool
follows_two w = nat_le 0x80 (slice_index w 1) && nat_le 0x80 (slice_index w 2) && not (slice_index w 3 == 0xA0)

-- Windows-1252 has no character for the byte at the offset
unfoldable pub is_undefined : List ℕ → Bool
is_undefined w =
    slice_index w 3 == 0x81 || slice_index w 3 == 0x8D || slice_index w 3 == 0x8F || slice_index w 3 == 0x90 || slice_index w 3 == 0x9D

-- an ASCII letter
unfoldable pub is_letter : ℕ → Bool
is_letter b = nat_le 0x41 b && nat_le b 0x5A || nat_le 0x61 b && nat_le b 0x7A

-- a byte that is a letter in other encodings, and hardly occurs within words in Windows-1252
unfoldable pub is_letter_elsewhere : ℕ → Bool
is_letter_elsewhere b =
    if nat_lt b 0xA0 then b == 0x8A || nat_le 0x8D b && nat_le b 0x8F || b == 0x9A || nat_le 0x9D b
    else nat_le 0xA1 b && nat_le b 0xBF && not (b == 0xAD) && not (b == 0xB7)

-- the byte at the offset is such a letter between two of ASCII
unfoldable pub is_in_word : List ℕ → Bool
is_in_word w = is_letter (slice_index w 2) && is_letter_elsewhere (slice_index w 3) && is_letter (slice_index w 4)

-- a surrogate begins at the offset, written as a character of three bytes would be
unfoldable pub is_surrogate : List ℕ → Bool
is_surrogate w = slice_index w 3 == 0xED && nat_le 0xA0 (slice_index w 4) && nat_le (slice_index w 4) 0xBF && is_continuation (slice_index w 5)

-- the characters of Windows-1252 at 80 to 9F, which has none at 81, 8D, 8F, 90 and 9D
abbrev pub signs : List ℕ
signs =
    0x20AC ∷ 0x201A ∷ 0x192 ∷ 0x201E ∷ 0x2026 ∷ 0x2020 ∷ 0x2021 ∷ 0x2C6 ∷ 0x2030 ∷ 0x160 ∷ 0x2039 ∷ 0x152 ∷ 0x17D ∷ 0x2018 ∷ 0x2019 ∷ 0x201C ∷ 0x201D ∷ 0x2022 ∷ 0x2013 ∷ 0x2014 ∷ 0x2DC ∷ 0x2122
    ∷ 0x161 ∷ 0x203A ∷ 0x153 ∷ 0x17E ∷ 0x178 ∷ []

-- the scalar that a continuation byte becomes if it is read as Windows-1252, or as ISO 8859-1
unfoldable pub is_shown : ℕ → Bool
is_shown s = nat_le 0x80 s && nat_lt s 0xC0 || list_any (λ t. t == s) signs

-- the length in bytes of such a character that was decoded, or 0
abbrev pub shown_len_of : Result (ℕ × ℕ) Utf8ErrorKind → ℕ
shown_len_of (Ok x) = if is_shown x.0 then x.1 else 0
shown_len_of (Err e) = 0

-- the length in bytes of such a character that begins the bytes, or 0
unfoldable pub shown_len : List ℕ → ℕ
shown_len w = shown_len_of (decoded w)

-- that many such characters begin the bytes
unfoldable pub are_shown : ℕ → List ℕ → Bool
are_shown zero w = true
are_shown (suc n) w = nat_lt 0 (shown_len w) && are_shown n (drop (shown_len w) w)

-- The number of characters of the sequence at the offset that was encoded twice, or 0: the character that a lead byte
-- becomes if it is read as Windows-1252, U+00C2 to U+00F4, and as many such characters as that byte needs.
unfoldable pub twice_len : List ℕ → ℕ
twice_len w =
    if slice_index w 3 == 0xC3 && is_continuation (slice_index w 4) && are_shown (asked (slice_index w 4 + 0x40) - 1) (drop 5 w) then asked (slice_index w 4 + 0x40)
    else 0
