use Rattle.std.proofs.Common.{◌-◌}
use Rattle.recoding.proofs.LastBoundaries.{NoneOver}
use Rattle.recoding.proofs.boundaries.utf8_boundary.Given as goal

abbrev pub invariant-loop-place : goal.invariant-loop-place
invariant-loop-place l = NoneOver l.bytes (l.at - 3) l.place l.at
