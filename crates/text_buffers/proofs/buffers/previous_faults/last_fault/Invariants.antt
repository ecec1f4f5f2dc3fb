use Rattle.text_buffers.proofs.PreviousFaultLemmas.{SearchedBack}
use Rattle.text_buffers.proofs.buffers.previous_faults.last_fault.Given as goal

abbrev pub invariant-loop-end : goal.invariant-loop-end
invariant-loop-end l = SearchedBack l.bytes l.end

abbrev pub decreases-loop-end : goal.decreases-loop-end
decreases-loop-end l = l.end
