use Rattle.std.proofs.Common.{◌+◌, ◌-◌, ◌≤◌, length}
use Rattle.recoding.specs.Boundaries.{IsBoundary}
use Rattle.recoding.proofs.UnitEnds.{NoneBefore}
use Rattle.recoding.proofs.boundaries.boundary_after.Given as goal

abbrev pub invariant-loop-place : goal.invariant-loop-place
invariant-loop-place l = record {
  none : NoneBefore (IsBoundary l.from l.bytes) (length l.bytes) l.at l.place;
  near : l.place ≤ l.at + 3;
}

abbrev pub decreases-loop-place : goal.decreases-loop-place
decreases-loop-place l = length l.bytes - l.place
