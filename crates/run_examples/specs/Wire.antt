-- Records of a length and a text in UTF-16.
use Rattle.std.specs.Prelude.{◌≡◌, ℕ, ◌+◌, ◌*◌, ◌≤◌, List, length, drop, slice_index, slice_range}
use Rattle.cuts.specs.Recoded.{IsRecoded}
use Rattle.cuts.specs.declared.Form.TheVariants.{Utf8, Utf16Le}

-- the offset of the end of the record that begins the bytes
abbrev pub record_end : List ℕ → ℕ
record_end xs = 2 + 2 * (slice_index xs 0 + 256 * slice_index xs 1)

-- a record begins the bytes, `text` is its text as UTF-8, and `rest` follows it
pub record IsTextRecord (xs text rest : List ℕ) : Type 0 where
  pub within : record_end xs ≤ length xs
  pub is_text : IsRecoded Utf16Le Utf8 (slice_range xs 2 (record_end xs)) text
  pub after : rest ≡ drop (record_end xs) xs
