use Rattle.std.proofs.Common.{◌-◌, length}
use Rattle.utf_base.specs.Decoded.{decoded}
use Rattle.text_runs.proofs.FaultLemmas.{AreCounted}
use Rattle.text_runs.proofs.runs.counts.fault_count.Given as goal

abbrev pub invariant-loop-answer : goal.invariant-loop-answer
invariant-loop-answer l = AreCounted decoded l.fn.bytes l.place l.faults

abbrev pub decreases-loop-answer : goal.decreases-loop-answer
decreases-loop-answer l = length l.fn.bytes - l.place
