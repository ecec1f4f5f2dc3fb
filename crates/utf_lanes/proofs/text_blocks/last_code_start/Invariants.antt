use Rattle.std.proofs.Common.{ℕ, ◌≤◌, ◌<◌, get_or}
use Rattle.utf_lanes.specs.TextBlocks.{IsContinuation}
use Rattle.utf_lanes.proofs.text_blocks.last_code_start.Given as goal

abbrev pub invariant-loop-place : goal.invariant-loop-place
invariant-loop-place l = (l.place ≤ l.end) × ((k : ℕ) → l.place ≤ k → k < l.end → IsContinuation (get_or l.bytes k 0))

abbrev pub decreases-loop-place : goal.decreases-loop-place
decreases-loop-place l = l.place
