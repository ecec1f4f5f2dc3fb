use Rattle.std.proofs.Common.{◌-◌, ◌≤◌, length}
use Rattle.utf_lanes.specs.TextBlocks.{AllMayFollow}
use Rattle.utf_lanes.proofs.text_blocks.batch_end.Given as goal

abbrev pub invariant-loop-place : goal.invariant-loop-place
invariant-loop-place l = (l.start ≤ l.place) × (l.place ≤ length l.bytes) × AllMayFollow l.bytes l.start l.place

abbrev pub decreases-loop-place : goal.decreases-loop-place
decreases-loop-place l = length l.bytes - l.place
