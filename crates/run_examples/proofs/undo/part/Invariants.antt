use Rattle.std.proofs.Common.{◌≡◌, ◌≤◌, ◌-◌}
use Rattle.std.specs.Prelude.{slice_range}
use Rattle.run_examples.proofs.undo.part.Given as goal

abbrev pub invariant-loop-place : goal.invariant-loop-place
invariant-loop-place g l = record { from : l.start ≤ l.place; within : l.place ≤ l.end; bytes : l.bytes.items ≡ slice_range l.text l.start l.place }

abbrev pub decreases-loop-place : goal.decreases-loop-place
decreases-loop-place g l = l.end - l.place
