use Rattle.std.proofs.Common.{◌≡◌, ◌-◌, ◌≤◌, length, take}
use Rattle.utf_lanes.specs.Starts.{start_count}
use Rattle.utf_lanes.proofs.starts.parts_counted.Given as goal

abbrev pub invariant-loop-counted : goal.invariant-loop-counted
invariant-loop-counted l = (l.counted.place ≤ length l.bytes) × (l.counted.starts ≡ start_count (take l.counted.place l.bytes))

abbrev pub decreases-loop-counted : goal.decreases-loop-counted
decreases-loop-counted l = length l.bytes - l.counted.place
