use Rattle.std.proofs.Common.{◌-◌, length}
use Rattle.utf_base.specs.Decoded.{decoded}
use Rattle.recoding.specs.declared.faults.FaultKind.TheVariants as kind
use Rattle.text_stream.specs.FaultLists.{IsSoFar, fault_at}
use Rattle.text_stream.proofs.WindowFaults.{IsInWindow}
use Rattle.text_stream.proofs.runs.fault_lists.window_faults.Given as goal

abbrev pub invariant-loop-place : goal.invariant-loop-place
invariant-loop-place g l = IsSoFar (λ x. g.P.FromPiece.made (fault_at kind.Utf8 l.fn.offset x)) decoded l.fn.bytes l.fn.start l.fn.room l.room l.place l.written

abbrev pub decreases-loop-place : goal.decreases-loop-place
decreases-loop-place g l = length l.fn.bytes - l.place

abbrev pub invariant-loop-marks : goal.invariant-loop-marks
invariant-loop-marks g l =
    IsInWindow (λ x. g.P.FromPiece.made (fault_at kind.Utf8 l.fn.offset x)) l.fn.bytes l.fn.start l.fn.room l.room l.place l.window.len l.window.faults l.marks l.written

abbrev pub decreases-loop-marks : goal.decreases-loop-marks
decreases-loop-marks g l = length l.fn.room - l.written
