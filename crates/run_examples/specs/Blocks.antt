-- Characters of a block of Unicode.
use Rattle.std.specs.Prelude.{◌≡◌, ℕ, Bool, false, ◌&&◌, nat_le, List, count_by, Result, Ok, Err}
use Rattle.encode_unicode.specs.Code.{utf8}
use Rattle.encode_unicode.specs.Kinds.{merger_kind}
use Rattle.encode_unicode.specs.declared.error.Utf8ErrorKind.{Utf8ErrorKind}
use Rattle.cuts.specs.Collected.{IsMergedRun}

-- the result is a character from the first to the last
abbrev pub is_in_block : ℕ → ℕ → Result ℕ Utf8ErrorKind → Bool
is_in_block first last (Ok s) = nat_le first s && nat_le s last
is_in_block first last (Err k) = false

-- the number of results of a merger over the bytes that are characters of the block
abbrev pub CountsBlock : List ℕ → ℕ → ℕ → ℕ → Type 0
CountsBlock xs first last n = (answers : List (Result ℕ Utf8ErrorKind)) × IsMergedRun utf8 merger_kind xs answers × (n ≡ count_by (is_in_block first last) answers)
