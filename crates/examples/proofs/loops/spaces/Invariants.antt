use Rattle.std.proofs.Common.{◌≡◌}
use Rattle.std.specs.List.{count_by}
use Rattle.std.specs.Prelude.{nat_eq}
use Rattle.examples.proofs.loops.spaces.Given as goal

abbrev pub invariant-loop-c : goal.invariant-loop-c
invariant-loop-c l = l.count ≡ count_by (λ c. nat_eq c 32) l.yielded
