-- What an input most likely is, by its survey: the first rule that holds.
use Rattle.std.specs.Prelude.{ℕ, ◌+◌, ◌-◌, ◌*◌, Bool, true, ◌&&◌, ◌||◌, nat_lt, nat_le, ◌==◌, if◌then◌else◌, List, [], ◌∷◌, drop, slice_index, codes}
use Rattle.surveys.specs.declared.guesses.Guess.{Guess}
use Rattle.surveys.specs.declared.guesses.Guess.TheVariants.{Ascii, Utf8, Utf8Marked, Utf8Cut, Utf8Mixed, Utf8Twice, Utf8Surrogates, Utf16Le, Utf16Be, Utf16LeMarked, Utf16BeMarked, Utf32, Windows1252, Other8Bit, Binary}
use Rattle.surveys.specs.declared.survey.Survey.{Survey}
use Rattle.surveys.specs.declared.unit_counts.UnitCounts.{UnitCounts}

-- the bytes begin with some others
unfoldable pub begins : List ℕ → List ℕ → Bool
begins [] front = true
begins (b ∷ mark) front = slice_index front 0 == b && begins mark (drop 1 front)

-- %PDF, 7F ELF, 89 PNG, PK 03 04, GIF8, gzip, and a compiled message catalogue: none is text
unfoldable pub is_file : List ℕ → Bool
is_file front =
    begins (codes "%PDF") front || begins (0x7F ∷ 0x45 ∷ 0x4C ∷ 0x46 ∷ []) front || begins (0x89 ∷ 0x50 ∷ 0x4E ∷ 0x47 ∷ []) front || begins (0x50 ∷ 0x4B ∷ 3 ∷ 4 ∷ []) front
    || begins (codes "GIF8") front
    || begins (0x1F ∷ 0x8B ∷ []) front
    || begins (0xDE ∷ 0x12 ∷ 4 ∷ 0x95 ∷ []) front

-- the byte order mark of UTF-32, in either order
unfoldable pub is_utf32 : List ℕ → Bool
is_utf32 front = begins (0xFF ∷ 0xFE ∷ 0 ∷ 0 ∷ []) front || begins (0 ∷ 0 ∷ 0xFE ∷ 0xFF ∷ []) front

-- invalid bytes that are not the rest or the front of a character at an end; without any character, all of them
unfoldable pub single : Survey → ℕ
single s = if s.utf8.chars == 0 then s.utf8.faults else s.utf8.faults - s.head - s.tail

-- the bytes are valid UTF-8 without other controls, and fewer than one of four is 00
unfoldable pub is_padded : Survey → Bool
is_padded s = nat_lt 0 s.nul && nat_lt (s.nul * 4) s.len && s.utf8.faults == 0 && s.control == 0

-- of the units at least one of fifty is plain, twice as many as in the other order, and hardly any does not occur in text
unfoldable pub are_units : ℕ → UnitCounts → UnitCounts → Bool
are_units len units other = nat_lt 1 len && nat_le len (units.plain * 100) && nat_le (other.plain * 2) units.plain && nat_le ((units.stray + units.unpaired) * 20) units.plain

-- a byte is 00, or more than one of fifty is another control
unfoldable pub is_binary : Survey → Bool
is_binary s = nat_lt 0 s.nul || nat_lt s.len (s.control * 50)

-- at least half of the characters are of sequences that were encoded twice, and no more bytes are single ones
unfoldable pub is_twice : Survey → Bool
is_twice s = nat_lt 0 s.utf8.twice && nat_le s.utf8.chars (s.utf8.twice_chars * 2) && nat_le (single s) s.utf8.chars

-- a third of a surrogate's bytes, or more of the single bytes, are of surrogates
unfoldable pub has_surrogates : Survey → Bool
has_surrogates s = nat_le (single s) (s.utf8.surrogates * 6)

-- a fourth of the invalid bytes follow two bytes above 7F, as in text of other letters than Latin ones
unfoldable pub is_in_runs : Survey → Bool
is_in_runs s = nat_le s.utf8.faults (s.utf8.third * 4)

-- two signs, and one of twenty invalid bytes, are between letters; or one has no character in Windows-1252
unfoldable pub is_elsewhere : Survey → Bool
is_elsewhere s = nat_le 2 s.utf8.signs && nat_le s.utf8.faults (s.utf8.signs * 20) || nat_lt 0 s.utf8.undefined

-- with invalid bytes that are not only the rest or the front of a character
unfoldable pub guessed_of_single : Survey → Guess
guessed_of_single s =
    if has_surrogates s then Utf8Surrogates
    else if nat_le (single s) s.utf8.chars then Utf8Mixed
    else if is_in_runs s then Other8Bit
    else if nat_le (single s) (s.utf8.chars * 10) then Utf8Mixed
    else if is_elsewhere s then Other8Bit
    else Windows1252

-- by the bytes, which no mark and no 00 tells apart
unfoldable pub guessed_of_bytes : Survey → Guess
guessed_of_bytes s =
    if s.utf8.chars == 0 && s.utf8.faults == 0 then Ascii
    else if is_twice s then Utf8Twice
    else if s.utf8.faults == 0 then Utf8
    else if single s == 0 then Utf8Cut
    else guessed_of_single s

-- by the counts, without a mark at the front
unfoldable pub guessed_of_counts : Survey → Guess
guessed_of_counts s =
    if is_padded s then Binary
    else if are_units s.len s.utf16le s.utf16be then Utf16Le
    else if are_units s.len s.utf16be s.utf16le then Utf16Be
    else if is_binary s then Binary
    else guessed_of_bytes s

-- what the input most likely is
unfoldable pub guessed : Survey → Guess
guessed s =
    if is_file s.front then Binary
    else if begins (0xEF ∷ 0xBB ∷ 0xBF ∷ []) s.front then Utf8Marked
    else if nat_le 4 s.len && is_utf32 s.front then Utf32
    else if begins (0xFF ∷ 0xFE ∷ []) s.front then Utf16LeMarked
    else if begins (0xFE ∷ 0xFF ∷ []) s.front then Utf16BeMarked
    else guessed_of_counts s

-- what a guess says, for people
abbrev pub guess_text : Guess → List ℕ
guess_text Ascii = codes "ASCII"
guess_text Utf8 = codes "UTF-8"
guess_text Utf8Marked = codes "UTF-8, by its byte order mark"
guess_text Utf8Cut = codes "UTF-8, cut off inside a character"
guess_text Utf8Mixed = codes "UTF-8, with single bytes of an 8-bit encoding"
guess_text Utf8Twice = codes "UTF-8 that was encoded twice"
guess_text Utf8Surrogates = codes "CESU-8 or Java's modified UTF-8: UTF-8 with surrogates"
guess_text Utf16Le = codes "UTF-16LE, without a byte order mark"
guess_text Utf16Be = codes "UTF-16BE, without a byte order mark"
guess_text Utf16LeMarked = codes "UTF-16LE, by its byte order mark"
guess_text Utf16BeMarked = codes "UTF-16BE, by its byte order mark"
guess_text Utf32 = codes "UTF-32, by its byte order mark"
guess_text Windows1252 = codes "Windows-1252, or another encoding of Latin letters"
guess_text Other8Bit = codes "some 8-bit encoding, but not Windows-1252"
guess_text Binary = codes "not text"
