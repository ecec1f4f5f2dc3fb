use Rattle.std.proofs.Common.{◌-◌, length}
use Rattle.text_runs.specs.PieceSteps.{IsCountedTo}
use Rattle.text_runs.proofs.runs.counts.char_count.Given as goal

abbrev pub invariant-loop-place : goal.invariant-loop-place
invariant-loop-place l = IsCountedTo l.bytes l.place l.count

abbrev pub decreases-loop-place : goal.decreases-loop-place
decreases-loop-place l = length l.bytes - l.place
