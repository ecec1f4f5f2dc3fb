use Rattle.std.proofs.Common.{◌≡◌, ◌-◌, ◌%◌, ◌≤◌, length, take}
use Rattle.utf_lanes.specs.BytePairs.{swapped}
use Rattle.recoding.proofs.turned.put_blocks.Given as goal

abbrev pub invariant-loop-place : goal.invariant-loop-place
invariant-loop-place g l = record {
  within : l.place ≤ length l.bytes;
  even : l.place % 2 ≡ 0;
  appends : g.O.Output.appends l.fn.out (swapped (take l.place l.bytes)) l.out;
}

abbrev pub decreases-loop-place : goal.decreases-loop-place
decreases-loop-place g l = length l.bytes - l.place
