use Rattle.std.proofs.Common.{◌-◌, ◌≤◌, length}
use Rattle.utf_lanes.specs.TextBlocks.{AllMayFollow}
use Rattle.utf_lanes.proofs.text_blocks.valid_len_by_lanes.Given as goal

abbrev pub invariant-loop-place : goal.invariant-loop-place
invariant-loop-place l = (l.place ≤ length l.bytes) × (l.start ≤ l.place) × AllMayFollow l.bytes l.start l.place

abbrev pub decreases-loop-place : goal.decreases-loop-place
decreases-loop-place l = length l.bytes - l.place
