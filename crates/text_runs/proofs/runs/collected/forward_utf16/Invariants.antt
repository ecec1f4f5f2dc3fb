use Rattle.std.proofs.Common.{◌≡◌, ◌++◌, List, ℕ}
use Rattle.encode_unicode.specs.Pieces.{unit_pieces, unit_pieces_left}
use Rattle.encode_unicode.specs.Window.{UnitItem, Window}
use Rattle.text_runs.proofs.ForwardRuns.{IsUnitRunSoFar}
use Rattle.text_runs.proofs.runs.collected.forward_utf16.Given as goal

-- the items are those that the decoder gave, and the remaining ones are still to come
pub record IsSoFar (xs : List ℕ) (items : List UnitItem) (w : Window) : Type 0 where
  pub run : IsUnitRunSoFar xs items w
  pub all : items ++ unit_pieces_left w ≡ unit_pieces xs

abbrev pub invariant-loop-item : goal.invariant-loop-item
invariant-loop-item g l = IsSoFar l.src l.items.items l.item-iterator
