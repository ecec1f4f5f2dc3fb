use Rattle.std.proofs.Common.{◌-◌, refl, arith}
use Rattle.std.proofs.lemmas.List.{take_rest}
use Rattle.recoding.proofs.UnitEnds.{before_pair, no_pair_before}
use Rattle.recoding.proofs.boundaries.unit_boundary_before.Goals as goal
use Rattle.recoding.proofs.boundaries.unit_boundary_before.Goals.{else-at-gt0-via-then-at-gt0+else-is_pair, else-at-gt0-via-else-at-gt0}

pub returns-then-is_pair-clause-end : goal.returns-then-is_pair-clause-end
returns-then-is_pair-clause-end c =
    before_pair c.args.units.now c.args.at c.if-at-gt0.true c.if-units-at.false
    (rw (take_rest c.args.units.now (c.args.at - 1)) at (c.if-is_pair.ensures.yes refl))

pub returns-clause-end : goal.returns-clause-end
returns-clause-end c =
    no_pair_before c.args.units.now c.args.at c.if-units-at.false
    (elim c.else-at-gt0.branch [
      | else-at-gt0-via-then-at-gt0+else-is_pair w ↦ λ some. rw (take_rest c.args.units.now (c.args.at - 1)) at (w.if-is_pair.ensures.no refl)
      | else-at-gt0-via-else-at-gt0 w ↦ λ some. absurd (omega arith)
    ])
