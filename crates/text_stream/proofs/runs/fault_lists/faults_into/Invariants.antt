use Rattle.std.proofs.Common.{◌-◌, length}
use Rattle.utf_base.specs.Decoded.{decoded}
use Rattle.recoding.specs.declared.faults.FaultKind.TheVariants as kind
use Rattle.text_stream.specs.FaultLists.{IsSoFar, fault_at}
use Rattle.text_stream.proofs.runs.fault_lists.faults_into.Given as goal

abbrev pub invariant-loop-answer : goal.invariant-loop-answer
invariant-loop-answer g l = IsSoFar (λ x. g.P.FromPiece.made (fault_at kind.Utf8 l.fn.offset x)) decoded l.fn.bytes 0 l.fn.room l.room l.place l.written

abbrev pub decreases-loop-answer : goal.decreases-loop-answer
decreases-loop-answer g l = length l.fn.bytes - l.place
