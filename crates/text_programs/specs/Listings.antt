-- The output of a whole run over bytes.
use Rattle.std.specs.Prelude.{ℕ, List, flat_map}
use Rattle.encode_unicode.specs.Window.{Item}
use Rattle.text_programs.specs.Lines.{item_line}

-- the listing of a run: a line for each item
abbrev pub listing : List Item → List ℕ
listing items = flat_map item_line items
