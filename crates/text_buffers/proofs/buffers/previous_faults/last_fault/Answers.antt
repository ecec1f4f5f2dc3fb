use Rattle.std.proofs.lemmas.Slice.{between_from_start}
use Rattle.text_buffers.proofs.PreviousFaultLemmas.{searched_more, searched_fault}
use Rattle.text_buffers.proofs.buffers.previous_faults.last_fault.Goals as goal

pub loop-end-preserved : goal.loop-end-preserved
loop-end-preserved c =
    let xs = c.args.bytes.now in
    (searched_more xs c.loop-end.end c.in-Ok.field-0-0 c.in-Ok.len c.loop-end.invariant (rw (between_from_start xs c.loop-end.end) c.in-Ok.ensures.decodes)).0

pub returns-in-Err : goal.returns-in-Err
returns-in-Err c =
    let xs = c.args.bytes.now in
    searched_fault xs c.loop-end.end c.loop-end.invariant c.loop-end-test.true (rw (between_from_start xs c.loop-end.end) c.in-Err.ensures.decodes.0)
