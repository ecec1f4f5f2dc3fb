use Rattle.std.proofs.Common.{◌-◌, ◌≤◌, length}
use Rattle.utf_lanes.specs.UnitBlocks.{AllPaired}
use Rattle.utf_lanes.proofs.paired_units.paired_end.Given as goal

abbrev pub invariant-loop-place : goal.invariant-loop-place
invariant-loop-place l = record {
  least : 1 ≤ l.place;
  within : l.place ≤ length l.units;
  paired : AllPaired l.units 1 l.place;
}

abbrev pub decreases-loop-place : goal.decreases-loop-place
decreases-loop-place l = length l.units - l.place
