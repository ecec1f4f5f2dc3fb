use Rattle.std.proofs.Common.{rules, arith, refl}
use Rattle.text_runs.proofs.Readings.{IsReadSoFar-part, IsReadSoFar-idle, reads_all}
use Rattle.text_buffers.proofs.buffers.text_buffer.TextBuffer.of_reader.Goals.{in-Ok+in_ok-append-in-Ok, in-Err+in_ok-pass_over-in-Err}
use Rattle.text_buffers.proofs.buffers.text_buffer.TextBuffer.of_reader.Goals as goal

pub loop-preserved : goal.loop-preserved
loop-preserved g c =
    elim c.match-read_once.branch [
      | in-Ok+in_ok-append-in-Ok w ↦
          let taken = w.in-Ok.ensures in
          rw (w.text-is, w.in_ok-append-in-Ok.ensures)
          (IsReadSoFar-part _ c.loop.invariant taken.consumes.0 (omega arith) (omega arith) taken.failures taken.reads)
      | in-Err+in_ok-pass_over-in-Err w ↦
          let failed = w.in-Err.ensures in
          rw w.text-is (IsReadSoFar-idle c.loop.invariant failed.consumes w.in_ok-pass_over-in-Err.ensures failed.failures failed.reads)
    ]

pub returns-in-Ok-eq0-clause-text : goal.returns-in-Ok-eq0-clause-text
returns-in-Ok-eq0-clause-text g c =
    let read = rw (c.in-Ok-eq0.is, c.in-Ok-eq0.field-0-test) at c.read_once.ensures.consumes in
    reads_all _ _ _ _ c.loop.invariant.read read.0 (read.1 refl (search rules))
