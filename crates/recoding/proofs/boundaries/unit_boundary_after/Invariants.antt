use Rattle.std.proofs.Common.{◌+◌, ◌-◌, ◌≤◌, length}
use Rattle.recoding.specs.Boundaries.{IsUnitBoundary}
use Rattle.recoding.proofs.UnitEnds.{NoneBefore}
use Rattle.recoding.proofs.boundaries.unit_boundary_after.Given as goal

abbrev pub invariant-loop-place : goal.invariant-loop-place
invariant-loop-place l = record {
  none : NoneBefore (IsUnitBoundary l.units) (length l.units) l.at l.place;
  near : l.place ≤ l.at + 1;
}

abbrev pub decreases-loop-place : goal.decreases-loop-place
decreases-loop-place l = length l.units - l.place
