use Rattle.std.proofs.Common.{◌-◌, ◌≤◌, length, take}
use Rattle.recoding.specs.UnitRuns.{widened}
use Rattle.recoding.proofs.ascii_to_utf16.put_lanes.Given as goal

abbrev pub invariant-loop-place : goal.invariant-loop-place
invariant-loop-place g l = record {
  within : l.place ≤ length l.bytes;
  appends : g.O.Output.appends l.fn.out (widened g.E.ByteOrder.HIGH_FIRST (take l.place l.bytes)) l.out;
}

abbrev pub decreases-loop-place : goal.decreases-loop-place
decreases-loop-place g l = length l.bytes - l.place
