use Rattle.std.proofs.Common.{ℕ, ◌<◌}
use Rattle.examples.specs.Needles.{StandsAt}
use Rattle.examples.proofs.needles.find_ascii.Given as goal

abbrev pub invariant-loop-place : goal.invariant-loop-place
invariant-loop-place l = (k : ℕ) → k < l.place → StandsAt l.bytes l.needle k → ⊥
