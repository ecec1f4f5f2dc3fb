-- What an input may be, the likeliest first.
use Rattle.std.specs.Prelude.{Bool, ◌&&◌, ◌||◌, nat_lt, nat_le, ◌==◌, if◌then◌else◌, List, [], ◌∷◌, ◌++◌}
use Rattle.surveys.specs.declared.guesses.Guess.{Guess}
use Rattle.surveys.specs.declared.guesses.Guess.TheVariants.{Ascii, Utf8, Utf8Marked, Utf8Cut, Utf8Mixed, Utf8Twice, Utf8Surrogates, Utf16Le, Utf16Be, Utf16LeMarked, Utf16BeMarked, Utf32, Windows1252, Other8Bit, Binary}
use Rattle.surveys.specs.declared.survey.Survey.{Survey}
use Rattle.surveys.specs.declared.unit_counts.UnitCounts.{UnitCounts}
use Rattle.surveys.specs.Guesses.{guessed, is_elsewhere, is_file, is_in_runs, is_padded}

-- a guess, if a condition holds
abbrev pub only_if : Bool → Guess → List Guess
only_if holds guess = if holds then guess ∷ [] else []

-- which 8-bit encoding it is, if it is one
abbrev pub guessed_of_8_bits : Survey → Guess
guessed_of_8_bits s = if is_in_runs s || is_elsewhere s then Other8Bit else Windows1252

-- which valid encoding bytes have that are valid
abbrev pub guessed_of_valid : Survey → Guess
guessed_of_valid s = if s.utf8.chars == 0 then Ascii else Utf8

-- each unit may occur in text
abbrev pub may_be_units : UnitCounts → Bool
may_be_units units = units.stray == 0 && units.unpaired == 0

-- what else an input may be that most likely is the first
abbrev pub others : Guess → Survey → List Guess
others Ascii s = []
others Utf8 s = only_if (nat_le 3 s.utf8.twice) Utf8Twice
others Utf8Marked s = []
others Utf8Cut s = Utf8Mixed ∷ guessed_of_8_bits s ∷ []
others Utf8Mixed s = guessed_of_8_bits s ∷ []
others Utf8Twice s = (if s.utf8.faults == 0 then Utf8 else Utf8Mixed) ∷ []
others Utf8Surrogates s = guessed_of_8_bits s ∷ []
others Utf16Le s = Binary ∷ []
others Utf16Be s = Binary ∷ []
others Utf16LeMarked s = []
others Utf16BeMarked s = []
others Utf32 s = []
others Windows1252 s = Other8Bit ∷ only_if (nat_lt 0 s.utf8.chars) Utf8Mixed
others Other8Bit s = only_if (s.utf8.undefined == 0) Windows1252 ++ only_if (nat_lt 0 s.utf8.chars) Utf8Mixed
others Binary s =
    if is_file s.front then []
    else if is_padded s then guessed_of_valid s ∷ []
    else only_if (may_be_units s.utf16le) Utf16Le ++ only_if (may_be_units s.utf16be) Utf16Be

-- what the input may be, the likeliest first
abbrev pub guesses : Survey → List Guess
guesses s = guessed s ∷ others (guessed s) s
