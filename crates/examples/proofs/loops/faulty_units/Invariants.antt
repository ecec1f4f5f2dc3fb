use Rattle.std.proofs.Common.{◌≡◌}
use Rattle.std.specs.List.{count_by}
use Rattle.std.specs.Prelude.{is_err}
use Rattle.examples.proofs.loops.faulty_units.Given as goal

abbrev pub invariant-loop-item : goal.invariant-loop-item
invariant-loop-item l = l.count ≡ count_by (λ x. is_err x.1) l.yielded
