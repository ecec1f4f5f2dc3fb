use Rattle.std.proofs.Common.{◌-◌, refl, arith}
use Rattle.recoding.proofs.LastBoundaries.{utf8_last_before, utf8_last_here}
use Rattle.recoding.proofs.boundaries.utf8_boundary.Goals as goal

pub returns-then-lies_over-clause-end : goal.returns-then-lies_over-clause-end
returns-then-lies_over-clause-end c = utf8_last_before c.args.bytes.now c.loop-place.place c.args.at c.loop-place-test.true (c.if-lies_over.ensures.yes refl)

pub returns-clause-end : goal.returns-clause-end
returns-clause-end c = utf8_last_here c.args.bytes.now (c.args.at - 3) c.args.at refl (λ p s lo hi. c.loop-place.invariant p s lo (omega arith))
