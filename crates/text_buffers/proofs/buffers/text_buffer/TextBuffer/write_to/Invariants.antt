use Rattle.std.proofs.Common.{◌≡◌, ◌-◌, ◌≤◌, length, take}
use Rattle.std.specs.Io.KnownBytes.{Appends}
use Rattle.std.specs.Prelude.{IsTrue}
use Rattle.text_buffers.proofs.buffers.text_buffer.TextBuffer.write_to.Given as goal

abbrev pub invariant-loop-offset : goal.invariant-loop-offset
invariant-loop-offset g l =
    (l.offset ≤ length l.self) × Appends (g.S.Sink.contents l.fn.to) (g.S.Sink.contents l.to) (take l.offset l.self)
    × (IsTrue g.S.Sink.is_counted → g.S.Sink.failures l.to ≡ g.S.Sink.failures l.fn.to)
    × (IsTrue g.S.Sink.is_counted → g.S.Sink.other_calls l.to ≡ g.S.Sink.other_calls l.fn.to)

abbrev pub decreases-loop-offset : goal.decreases-loop-offset
decreases-loop-offset g l = length l.self - l.offset
