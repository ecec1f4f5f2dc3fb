-- What C sees of a guess.
use Rattle.std.specs.Prelude.{ℕ, List}
use Rattle.surveys.specs.declared.guesses.Guess.{Guess}
use Rattle.surveys.specs.declared.guesses.Guess.TheVariants.{Ascii, Utf8, Utf8Marked, Utf8Cut, Utf8Mixed, Utf8Twice, Utf8Surrogates, Utf16Le, Utf16Be, Utf16LeMarked, Utf16BeMarked, Utf32, Windows1252, Other8Bit, Binary}

-- the number of a guess
abbrev pub guess_number : Guess → ℕ
guess_number Ascii = 0
guess_number Utf8 = 1
guess_number Utf8Marked = 2
guess_number Utf8Cut = 3
guess_number Utf8Mixed = 4
guess_number Utf8Twice = 5
guess_number Utf8Surrogates = 6
guess_number Utf16Le = 7
guess_number Utf16Be = 8
guess_number Utf16LeMarked = 9
guess_number Utf16BeMarked = 10
guess_number Utf32 = 11
guess_number Windows1252 = 12
guess_number Other8Bit = 13
guess_number Binary = 14
