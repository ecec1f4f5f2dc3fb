use Rattle.std.proofs.Common.{◌≡◌}
use Rattle.std.specs.List.{count_by}
use Rattle.std.specs.Prelude.{is_err}
use Rattle.examples.proofs.loops.faults.Given as goal

abbrev pub invariant-loop-answer : goal.invariant-loop-answer
invariant-loop-answer l = l.count ≡ count_by (λ x. is_err x.1) l.yielded
