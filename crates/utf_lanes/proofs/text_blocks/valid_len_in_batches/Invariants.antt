use Rattle.std.proofs.Common.{◌-◌, ◌≤◌, length}
use Rattle.utf_lanes.specs.TextBlocks.{AllMayFollow}
use Rattle.utf_lanes.proofs.text_blocks.valid_len_in_batches.Given as goal

abbrev pub invariant-loop-end : goal.invariant-loop-end
invariant-loop-end l = (l.start ≤ l.end) × (l.end ≤ length l.bytes) × (l.reach ≤ 960) × AllMayFollow l.bytes l.start l.end

abbrev pub decreases-loop-end : goal.decreases-loop-end
decreases-loop-end l = length l.bytes - l.end
