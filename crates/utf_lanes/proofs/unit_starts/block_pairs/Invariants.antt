use Rattle.std.proofs.Common.{◌≡◌, ◌≤◌}
use Rattle.utf_lanes.specs.UnitStarts.{ends_pair, place_count}
use Rattle.utf_lanes.proofs.unit_starts.block_pairs.Given as goal

abbrev pub invariant-loop-i : goal.invariant-loop-i
invariant-loop-i l = (l.pairs ≡ place_count (ends_pair l.high l.bytes l.place) l.i) × (l.pairs ≤ l.i)
