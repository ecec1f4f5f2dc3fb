use Rattle.std.proofs.Common.{◌≡◌, ◌-◌, ◌%◌, ◌≤◌, length}
use Rattle.surveys.specs.SurveyOrdinary.{AreAll}
use Rattle.surveys.proofs.ordinary.class_end.Given as goal

abbrev pub invariant-loop-place : goal.invariant-loop-place
invariant-loop-place g l =
    record { least : l.start ≤ l.place; within : l.place ≤ length l.bytes; blocks : (l.place - l.start) % 256 ≡ 0; class : AreAll g.C.BlockClass.class l.bytes l.start l.place }

abbrev pub decreases-loop-place : goal.decreases-loop-place
decreases-loop-place g l = length l.bytes - l.place
