-- The scalar of an item of a decoder.
use Rattle.std.specs.Prelude.{ℕ, unwrap_or}
use Rattle.std.specs.Result.{result_ok}
use Rattle.encode_unicode.specs.Window.{Item}

-- the scalar of an item, or U+FFFD for a fault
abbrev pub shown_item : Item → ℕ
shown_item x = unwrap_or (result_ok x.1) 0xFFFD
