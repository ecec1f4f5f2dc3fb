use Rattle.std.proofs.Common.{◌≡◌, ◌-◌, ◌≤◌}
use Rattle.std.specs.List.{copy_within}
use Rattle.text_buffers.proofs.lists.move_blocks_down.Given as goal

abbrev pub invariant-loop-next : goal.invariant-loop-next
invariant-loop-next g l = record {
  moved : l.items ≡ copy_within l.fn.items l.gap l.next 0;
  least : l.gap ≤ l.next;
  most : l.next ≤ l.len;
}

abbrev pub decreases-loop-next : goal.decreases-loop-next
decreases-loop-next g l = l.len - l.next
