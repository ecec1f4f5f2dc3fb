-- The number of errors in some bytes.
use Rattle.std.specs.Prelude.{◌≡◌, ℕ, List}
use Rattle.encode_unicode.specs.Window.{Item}
use Rattle.cuts.specs.ForwardRuns.{IsForwardRun, faulty_item_count}

-- the number of items of the forward run over the bytes that are errors
pub record CountsFaults (xs : List ℕ) (faults : ℕ) : Type 0 where
  pub items : List Item
  pub run : IsForwardRun xs items
  pub counted : faults ≡ faulty_item_count items
