use Rattle.std.proofs.Common.{◌≡◌, map}
use Rattle.std.specs.List.{filter}
use Rattle.std.specs.Prelude.{nat_eq}
use Rattle.examples.proofs.loops.commas.Given as goal

abbrev pub invariant-loop-place : goal.invariant-loop-place
invariant-loop-place g l = l.places.items ≡ map (λ x. x.0) (filter (λ x. nat_eq x.1 44) l.yielded)
