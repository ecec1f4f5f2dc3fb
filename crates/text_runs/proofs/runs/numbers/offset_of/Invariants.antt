use Rattle.std.proofs.Common.{◌-◌, ◌≤◌, length}
use Rattle.text_runs.specs.PieceSteps.{IsCountedTo}
use Rattle.text_runs.proofs.runs.numbers.offset_of.Given as goal

-- the remaining number is the number less the pieces up to the offset
abbrev pub invariant-loop-place : goal.invariant-loop-place
invariant-loop-place l = (l.left ≤ l.number) × IsCountedTo l.bytes l.place (l.number - l.left)

abbrev pub decreases-loop-place : goal.decreases-loop-place
decreases-loop-place l = length l.bytes - l.place
