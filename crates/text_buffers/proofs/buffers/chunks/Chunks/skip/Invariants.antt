use Rattle.std.proofs.Common.{◌≡◌, ◌*◌, ◌<◌, ◌≤◌, length}
use Rattle.text_buffers.specs.Measures.{measure_of}
use Rattle.text_buffers.specs.Rows.{IsMark}
use Rattle.text_buffers.proofs.buffers.chunks.Chunks.skip.Given as goal

abbrev pub invariant-loop-sum : goal.invariant-loop-sum
invariant-loop-sum g l =
    IsMark l.self l.mark × (l.mark.number ≡ 256 * l.sum-index) × (measure_of l.measure l.mark.before ≤ l.number) × (0 < length l.self → l.mark.number < length l.self)
