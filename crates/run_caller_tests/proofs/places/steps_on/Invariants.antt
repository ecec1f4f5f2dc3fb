use Rattle.cuts.specs.PieceBoundaries.{IsBetween}
use Rattle.run_caller_tests.proofs.places.steps_on.Given as goal

abbrev pub invariant-loop-next : goal.invariant-loop-next
invariant-loop-next g l = IsBetween l.src l.place
