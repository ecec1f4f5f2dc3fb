use Rattle.std.proofs.Common.{◌≡◌, ◌++◌, take, drop, map}
use Rattle.text_runs.specs.Tables.{moved_item}
use Rattle.text_buffers.proofs.piece_table.move_places.Given as goal

abbrev pub invariant-loop-i : goal.invariant-loop-i
invariant-loop-i l = l.items ≡ map (moved_item l.from l.to) (take l.i l.fn.items) ++ drop l.i l.fn.items
