use Rattle.std.proofs.Common.{◌≡◌, ◌-◌, ◌≤◌, length}
use Rattle.utf_lanes.specs.UnitStarts.{unit_start_count}
use Rattle.utf_lanes.proofs.unit_starts.units_counted_up_to.Given as goal

abbrev pub invariant-loop-counted : goal.invariant-loop-counted
invariant-loop-counted g l = (l.counted.place ≤ length (g.U.UnitList.list l.units)) × (l.counted.starts ≡ unit_start_count (g.U.UnitList.list l.units) l.counted.place) × (l.counted.starts ≤ l.most)

abbrev pub decreases-loop-counted : goal.decreases-loop-counted
decreases-loop-counted g l = length (g.U.UnitList.list l.units) - l.counted.place
