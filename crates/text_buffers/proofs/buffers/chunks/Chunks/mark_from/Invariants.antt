use Rattle.std.proofs.Common.{◌-◌, ◌<◌, ◌≤◌, length}
use Rattle.text_buffers.specs.Rows.{IsMark}
use Rattle.text_buffers.proofs.buffers.chunks.Chunks.mark_from.Given as goal

abbrev pub invariant-loop-mark : goal.invariant-loop-mark
invariant-loop-mark g l = IsMark l.self l.mark × (l.mark.before.bytes ≤ l.at) × (l.fn.from.number < length l.self → l.mark.number < length l.self)

abbrev pub decreases-loop-mark : goal.decreases-loop-mark
decreases-loop-mark g l = length l.self - l.mark.number
