use Rattle.std.proofs.Common.{◌≡◌, ◌+◌, ◌-◌, ◌≤◌, length}
use Rattle.std.specs.List.{copy_within}
use Rattle.text_buffers.proofs.lists.move_blocks_up.Given as goal

abbrev pub invariant-loop-left : goal.invariant-loop-left
invariant-loop-left g l = record {
  moved : l.items ≡ copy_within l.fn.items l.left (length l.fn.items - l.gap) (l.gap + l.left);
  within : l.left + l.gap ≤ length l.fn.items;
}

abbrev pub decreases-loop-left : goal.decreases-loop-left
decreases-loop-left g l = l.left
