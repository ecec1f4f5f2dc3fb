use Rattle.std.proofs.Common.{◌-◌, length}
use Rattle.utf_base.specs.Decoded.{decoded_pairs}
use Rattle.recoding.specs.declared.faults.FaultKind.TheVariants as kind
use Rattle.text_stream.specs.FaultLists.{IsSoFar, fault_at}
use Rattle.text_stream.proofs.runs.fault_lists.unit_faults_into.Given as goal

abbrev pub invariant-loop-answer : goal.invariant-loop-answer
invariant-loop-answer g l = IsSoFar (λ x. g.P.FromPiece.made (fault_at kind.Utf16 l.fn.offset x)) decoded_pairs l.fn.units 0 l.fn.room l.room l.place l.written

abbrev pub decreases-loop-answer : goal.decreases-loop-answer
decreases-loop-answer g l = length l.fn.units - l.place
