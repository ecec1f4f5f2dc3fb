use Rattle.std.proofs.Common.{length, min, ap, sym, ◌∙◌}
use Rattle.text_buffers.specs.declared.buffers.counts.Counts.{Counts}
use Rattle.text_runs.specs.PieceBoundaries.{IsFirstBetween}
use Rattle.text_buffers.proofs.PreviousFaultLemmas.{none_counted_before, previous_told}
use Rattle.text_buffers.proofs.buffers.previous_faults.chunk_fault_before.Goals as goal

pub returns-then-counts-eq0 : goal.returns-then-counts-eq0
returns-then-counts-eq0 g c = none_counted_before c.args.chunk.now c.args.at (sym (ap (λ (k : Counts). k.faults) c.counts.ensures) ∙ c.if-counts-eq0.true)

pub returns : goal.returns
returns g c =
    let x = c.args.chunk.now in
    let first : IsFirstBetween x (min (length x) c.args.at) c.ceil.result = rw (c.min.ensures, c.bytes-bytes.ensures) at c.ceil.ensures in
    previous_told x c.args.at c.ceil.result first c.last_fault.result (rw c.bytes-bytes.ensures at c.last_fault.ensures)
