use Rattle.std.proofs.Common.{◌≡◌, ◌+◌, ◌-◌, ◌*◌, ◌≤◌, length}
use Rattle.std.specs.List.{copy_within}
use Rattle.text_buffers.proofs.lists.move_up_by.Given as goal

abbrev pub invariant-loop-left : goal.invariant-loop-left
invariant-loop-left g l = record {
  moved : l.items ≡ copy_within l.fn.items (l.left * g.row.GAP) (length l.fn.items - g.row.GAP) (l.left * g.row.GAP + g.row.GAP);
  within : l.left * g.row.GAP + g.row.GAP ≤ length l.fn.items;
}

abbrev pub decreases-loop-left : goal.decreases-loop-left
decreases-loop-left g l = l.left
