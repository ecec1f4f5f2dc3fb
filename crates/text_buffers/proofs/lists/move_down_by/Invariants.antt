use Rattle.std.proofs.Common.{◌≡◌, ◌+◌, ◌-◌, ◌*◌, ◌≤◌, length}
use Rattle.std.specs.List.{copy_within}
use Rattle.text_buffers.proofs.lists.move_down_by.Given as goal

abbrev pub invariant-loop-next : goal.invariant-loop-next
invariant-loop-next g l = record {
  moved : l.items ≡ copy_within l.fn.items g.row.GAP (l.next * g.row.GAP + g.row.GAP) 0;
  within : l.next * g.row.GAP + g.row.GAP ≤ length l.fn.items;
}

abbrev pub decreases-loop-next : goal.decreases-loop-next
decreases-loop-next g l = l.chunks - l.next
