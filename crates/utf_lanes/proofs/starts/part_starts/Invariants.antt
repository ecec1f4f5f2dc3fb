use Rattle.std.proofs.Common.{◌≡◌, ◌≤◌, take}
use Rattle.utf_lanes.specs.Starts.{start_count}
use Rattle.utf_lanes.proofs.starts.part_starts.Given as goal

abbrev pub invariant-loop-place : goal.invariant-loop-place
invariant-loop-place l = (l.starts ≡ start_count (take l.place l.bytes)) × (l.starts ≤ l.place)
