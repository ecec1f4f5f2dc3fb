use Rattle.text_runs.proofs.Readings.{IsReadSoFar}
use Rattle.text_buffers.proofs.buffers.text_buffer.TextBuffer.of_reader.Given as goal

abbrev pub invariant-loop : goal.invariant-loop
invariant-loop g l =
    IsReadSoFar g.R.Source.is_counted (g.R.Source.remaining l.fn.input) (g.R.Source.remaining l.input)
    (g.R.Source.failures l.fn.input) (g.R.Source.failures l.input) (g.R.Source.reads l.fn.input) (g.R.Source.reads l.input)
    l.counter l.text
