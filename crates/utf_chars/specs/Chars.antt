-- Specifications that the character types share, in terms of the scalar.
use Rattle.std.specs.Prelude.{◌≡◌, ℕ, ◌+◌, ◌-◌, ◌<◌, ◌&&◌, nat_le, if◌then◌else◌, List, [], length, slice_index, ◌==◌, Result, Ok, Err, MatchResult}
use Rattle.utf_base.specs.declared.errors.scalars.EmptyStrError.{EmptyStrError}
use Rattle.utf_base.specs.declared.errors.scalars.FromStrError.{FromStrError}
use Rattle.utf_base.specs.declared.errors.scalars.FromStrError.TheVariants.{MultipleCodepoints, Empty}
use Rattle.utf_base.specs.Scalar.{IsScalar}
use Rattle.utf_base.specs.Code.{utf8}
use Rattle.utf_base.specs.Front.{BeginsWith}
use Rattle.utf_base.specs.Kinds.{asked_by, value}
use Rattle.utf_base.specs.Piece.{Stands}
use Rattle.utf_base.specs.Units.{is_surrogate, pair_value}

-- the scalar of two units: the first if it is no surrogate, otherwise that of the two as a pair, whatever
-- they are
abbrev pub array_value : List ℕ → ℕ
array_value units = if is_surrogate (slice_index units 0) then pair_value (slice_index units 0) (slice_index units 1) else slice_index units 0

-- the lower case of A to Z, and every other scalar as it is
abbrev pub ascii_lowercase : ℕ → ℕ
ascii_lowercase s = if nat_le 0x41 s && nat_le s 0x5A then s + 32 else s

-- the upper case of a to z, and every other scalar as it is
abbrev pub ascii_uppercase : ℕ → ℕ
ascii_uppercase s = if nat_le 0x61 s && nat_le s 0x7A then s - 32 else s

-- the character that begins the text, with the length of its code in UTF-8; the empty text has none
abbrev pub BeginsText : List ℕ → Result (ℕ × ℕ) EmptyStrError → Type 0
BeginsText text r = MatchResult r (λ x. BeginsWith utf8 text x.0 x.1) (λ _. text ≡ [])

-- why a text is not one character: it is empty, or more follows the first
abbrev pub IsTextFault : List ℕ → FromStrError → Type 0
IsTextFault text Empty = text ≡ []
IsTextFault text MultipleCodepoints = (s : ℕ) × Stands utf8 text 0 s × (length (utf8 s) < length text)

-- the character whose code in UTF-8 the text is, otherwise why it is not one
abbrev pub IsOneCharText : List ℕ → Result ℕ FromStrError → Type 0
IsOneCharText text r = MatchResult r (λ s. IsScalar s × (text ≡ utf8 s)) (IsTextFault text)

-- the first character of a text, and its length in bytes
unfoldable pub first_of_text : List ℕ → Result (ℕ × ℕ) EmptyStrError
first_of_text text = if length text == 0 then Err (record {}) else Ok (value text, asked_by text)

-- the one character of a text
unfoldable pub parsed : List ℕ → Result ℕ FromStrError
parsed text =
    if length text == 0 then Err Empty
    else if length text == asked_by text then Ok (value text)
    else Err MultipleCodepoints

-- the result of parsing a text
pub record Parses (text : List ℕ) (r : Result ℕ FromStrError) : Type 0 where
  pub char : IsOneCharText text r
  pub known : r ≡ parsed text

-- a code in UTF-8 begins the list, and n is its length
abbrev pub IsFrontCode : List ℕ → ℕ → Type 0
IsFrontCode w n = (s : ℕ) × BeginsWith utf8 w s n
