-- Lossy transcoding: each character as it is, and U+FFFD for each maximal subpart, as the Unicode standard recommends
-- (chapter 3, D93b and "U+FFFD Substitution of Maximal Subparts") and the decoder of the WHATWG Encoding Standard
-- does.
use Rattle.std.specs.Prelude.{◌≡◌, ℕ, ◌<◌, ◌≤◌, List, ◌++◌, length, flat_map, get_or}
use Rattle.utf_base.specs.Code.{utf8}
use Rattle.utf_base.specs.Piece.{Stands}
use Rattle.utf_base.specs.Subparts.{IsMaximalSubpart}
use Rattle.recoding.specs.Recoded.{written}
use Rattle.recoding.specs.NextScalars.{MayBeSecond}
use Rattle.recoding.specs.declared.form.Form.{Form}
use Rattle.recoding.specs.TextForms.{text_form}
pub use Rattle.recoding.specs.TextForms.{ShowsUnitParts, odd_part}

-- ss is the list of scalars of the parts of the bytes, as text of that encoding
abbrev pub ReadsParts : Form → List ℕ → List ℕ → Type 0
ReadsParts from = (text_form from).reads_parts

-- `out` is the codes of the scalars of the parts of the bytes
abbrev pub IsLossy : Form → Form → List ℕ → List ℕ → Type 0
IsLossy from to bytes out = (ss : List ℕ) × ReadsParts from bytes ss × (out ≡ flat_map (written to) ss)

-- no code begins the bytes, whatever follows them
abbrev pub BeginsNoCode : List ℕ → Type 0
BeginsNoCode w = (later : List ℕ) (s : ℕ) → ¬ Stands utf8 (w ++ later) 0 s

-- a maximal subpart of n bytes begins the bytes, whatever follows them
abbrev pub BeginsSubpart : List ℕ → ℕ → Type 0
BeginsSubpart w n = (later : List ℕ) → IsMaximalSubpart utf8 (w ++ later) 0 n

-- The first two bytes begin a code of three or four.
pub record BeginsLongCode (w : List ℕ) : Type 0 where
  pub two : 1 < length w
  pub low : 0xE0 ≤ get_or w 0 0
  pub high : get_or w 0 0 < 0xF5
  pub second : MayBeSecond (get_or w 0 0) (get_or w 1 0)

-- The third byte is a continuation byte.
abbrev pub ThirdContinues : List ℕ → Type 0
ThirdContinues w = (2 < length w) × (0x80 ≤ get_or w 2 0) × (get_or w 2 0 < 0xC0)
