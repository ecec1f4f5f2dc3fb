-- The lines of the programs, each of one entry. 32 is a space and 10 ends a line.
use Rattle.std.specs.Prelude.{ℕ, Bool, false, List, [], ◌∷◌, ◌++◌, Option, Some, None, Result, Ok, Err, codes}
use Rattle.std.specs.Fmt.{decimal}
use Rattle.utf_base.specs.declared.errors.Utf8ErrorKind.{Utf8ErrorKind}
use Rattle.utf_base.specs.declared.errors.Utf8ErrorKind.TheVariants.{TooFewBytes, NonUtf8Byte, UnexpectedContinuationByte, InterruptedSequence, OverlongEncoding, Utf16ReservedCodepoint, TooHighCodepoint}
use Rattle.text_programs.specs.Line.{six_hex_digits}
use Rattle.encode_unicode.specs.Window.{Item}
use Rattle.text_runs.specs.ForwardRuns.{is_fault}

-- the name of a kind, as its variant is spelled
abbrev pub kind_name : Utf8ErrorKind → List ℕ
kind_name TooFewBytes = codes "TooFewBytes"
kind_name NonUtf8Byte = codes "NonUtf8Byte"
kind_name UnexpectedContinuationByte = codes "UnexpectedContinuationByte"
kind_name InterruptedSequence = codes "InterruptedSequence"
kind_name OverlongEncoding = codes "OverlongEncoding"
kind_name Utf16ReservedCodepoint = codes "Utf16ReservedCodepoint"
kind_name TooHighCodepoint = codes "TooHighCodepoint"

-- a scalar in six hexadecimal digits, or the name of the error
abbrev pub answer_text : Result ℕ Utf8ErrorKind → List ℕ
answer_text (Ok s) = six_hex_digits s
answer_text (Err k) = kind_name k

-- the offset, the length and the result, with a space between them
abbrev pub item_line : Item → List ℕ
item_line x = decimal x.0 ++ 32 ∷ [] ++ decimal x.2 ++ 32 ∷ [] ++ answer_text x.1 ++ 10 ∷ []

-- a result without offset and length
abbrev pub answer_line : Result ℕ Utf8ErrorKind → List ℕ
answer_line r = answer_text r ++ 10 ∷ []

-- the line of a piece, or that there was none
abbrev pub step_line : Option Item → List ℕ
step_line None = codes "none" ++ 10 ∷ []
step_line (Some x) = item_line x

-- whether the line of a piece is an error line
abbrev pub is_fault_step : Option Item → Bool
is_fault_step None = false
is_fault_step (Some x) = is_fault x
