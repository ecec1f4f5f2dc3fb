-- Whole runs over bytes from the front, and the number of their faults.
use Rattle.std.specs.Prelude.{◌≡◌, ◌↔◌, ℕ, Bool, List, count_by, is_err}
use Rattle.std.specs.Str.{IsUtf8}
use Rattle.utf_base.specs.Code.{utf8}
use Rattle.utf_base.specs.Kinds.{fault_kind}
use Rattle.encode_unicode.specs.Pieces.{pieces}
use Rattle.encode_unicode.specs.Window.{Item}
use Rattle.text_runs.specs.Items.{IsRunBetween, IsRun}

-- the items are the pieces of the bytes that begin from the offset i on and before j, in order, the faults with
-- their forward kinds
abbrev pub IsForwardRunBetween : List ℕ → ℕ → ℕ → List Item → Type 0
IsForwardRunBetween xs i j items = IsRunBetween utf8 fault_kind xs i j items

-- the items are the pieces of the bytes in order, the faults with their forward kinds
abbrev pub IsForwardRun : List ℕ → List Item → Type 0
IsForwardRun xs items = IsRun utf8 fault_kind xs items

-- whether the item is an error
abbrev pub is_fault : Item → Bool
is_fault x = is_err x.1

-- the number of items that are errors
abbrev pub faulty_item_count : List Item → ℕ
faulty_item_count items = count_by is_fault items

-- the forward run over some bytes is the list of the decoder's items, and nothing else
abbrev pub PiecesAreTheRun : Type 0
PiecesAreTheRun = (xs : List ℕ) (items : List Item) → IsForwardRun xs items ↔ (items ≡ pieces xs)

-- the forward run over some bytes has no error if and only if they are text
abbrev pub TextHasNoFault : Type 0
TextHasNoFault = (xs : List ℕ) (items : List Item) → IsForwardRun xs items → (faulty_item_count items ≡ 0) ↔ IsUtf8 xs
