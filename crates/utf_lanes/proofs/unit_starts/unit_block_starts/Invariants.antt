use Rattle.std.proofs.Common.{◌≡◌, ◌+◌, ◌≤◌}
use Rattle.utf_lanes.specs.UnitStarts.{unit_start_count}
use Rattle.utf_lanes.proofs.unit_starts.unit_block_starts.Given as goal

abbrev pub invariant-loop-i : goal.invariant-loop-i
invariant-loop-i l = (unit_start_count l.units (l.place + l.i) ≡ unit_start_count l.units l.place + l.starts) × (l.starts ≤ l.i)
