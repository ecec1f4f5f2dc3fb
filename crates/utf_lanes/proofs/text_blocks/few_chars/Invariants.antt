use Rattle.std.proofs.Common.{◌+◌, ◌-◌, ◌<◌, ◌≤◌, length, take, IsUtf8}
use Rattle.utf_lanes.proofs.text_blocks.few_chars.Given as goal

abbrev pub invariant-loop-place : goal.invariant-loop-place
invariant-loop-place l = (l.place ≤ length l.bytes) × IsUtf8 (take l.place l.bytes) × (l.place < l.least + 4)

abbrev pub decreases-loop-place : goal.decreases-loop-place
decreases-loop-place l = l.least - l.place
