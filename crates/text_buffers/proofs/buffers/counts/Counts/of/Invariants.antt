use Rattle.std.proofs.Common.{◌≡◌, ◌-◌, length, take}
use Rattle.encode_unicode.specs.Pieces.{pieces}
use Rattle.text_runs.specs.ForwardRuns.{faulty_item_count}
use Rattle.text_runs.specs.PieceSteps.{IsCountedTo}
use Rattle.text_buffers.proofs.buffers.counts.Counts.of.Given as goal

abbrev pub invariant-loop-place : goal.invariant-loop-place
invariant-loop-place l = IsCountedTo l.bytes l.place l.pieces × (l.faults ≡ faulty_item_count (pieces (take l.place l.bytes)))

abbrev pub decreases-loop-place : goal.decreases-loop-place
decreases-loop-place l = length l.bytes - l.place
