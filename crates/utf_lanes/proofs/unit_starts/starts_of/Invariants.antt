use Rattle.std.proofs.Common.{◌≡◌}
use Rattle.utf_lanes.specs.UnitStarts.{unit_start_count}
use Rattle.utf_lanes.proofs.unit_starts.starts_of.Given as goal

abbrev pub invariant-loop-place : goal.invariant-loop-place
invariant-loop-place g l = l.starts ≡ unit_start_count (g.U.UnitList.list l.units) l.place
