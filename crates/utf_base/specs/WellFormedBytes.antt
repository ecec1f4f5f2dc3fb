-- Well-formed UTF-8, row by row, as table 3-7 of the Unicode standard (chapter 3, "UTF-8") has it.
use Rattle.std.specs.Prelude.{ℕ, List, [], ◌∷◌}
use Rattle.utf_base.specs.Grammar.{Range, only, range, utf8_tail}

-- the scalars from the first to the last have codes of which each byte is of one range
pub record TableRow : Type 0 where
  pub first : ℕ
  pub last : ℕ
  pub bytes : List Range

abbrev pub scalars_from : ℕ → ℕ → List Range → TableRow
scalars_from first last bytes = record { first = first; last = last; bytes = bytes }

-- The rows of the table. A range 80..BF is written as the grammar's rule for it.
abbrev pub ascii : TableRow
ascii = scalars_from 0x0000 0x007F (range 0x00 0x7F ∷ [])

abbrev pub two_bytes : TableRow
two_bytes = scalars_from 0x0080 0x07FF (range 0xC2 0xDF ∷ utf8_tail ∷ [])

abbrev pub after_e0 : TableRow
after_e0 = scalars_from 0x0800 0x0FFF (only 0xE0 ∷ range 0xA0 0xBF ∷ utf8_tail ∷ [])

abbrev pub three_bytes : TableRow
three_bytes = scalars_from 0x1000 0xCFFF (range 0xE1 0xEC ∷ utf8_tail ∷ utf8_tail ∷ [])

abbrev pub after_ed : TableRow
after_ed = scalars_from 0xD000 0xD7FF (only 0xED ∷ range 0x80 0x9F ∷ utf8_tail ∷ [])

abbrev pub after_surrogates : TableRow
after_surrogates = scalars_from 0xE000 0xFFFF (range 0xEE 0xEF ∷ utf8_tail ∷ utf8_tail ∷ [])

abbrev pub after_f0 : TableRow
after_f0 = scalars_from 0x1_0000 0x3_FFFF (only 0xF0 ∷ range 0x90 0xBF ∷ utf8_tail ∷ utf8_tail ∷ [])

abbrev pub four_bytes : TableRow
four_bytes = scalars_from 0x4_0000 0xF_FFFF (range 0xF1 0xF3 ∷ utf8_tail ∷ utf8_tail ∷ utf8_tail ∷ [])

abbrev pub after_f4 : TableRow
after_f4 = scalars_from 0x10_0000 0x10_FFFF (only 0xF4 ∷ range 0x80 0x8F ∷ utf8_tail ∷ utf8_tail ∷ [])

abbrev pub table_rows : List TableRow
table_rows = ascii ∷ two_bytes ∷ after_e0 ∷ three_bytes ∷ after_ed ∷ after_surrogates ∷ after_f0 ∷ four_bytes ∷ after_f4 ∷ []
