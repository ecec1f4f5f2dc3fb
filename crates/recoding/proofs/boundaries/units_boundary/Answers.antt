use Rattle.std.proofs.Common.{◌-◌, ◌%◌, refl, arith}
use Rattle.std.proofs.lemmas.List.{take_rest}
use Rattle.recoding.proofs.LastBoundaries.{end_before_pair, end_of_units}
use Rattle.recoding.proofs.boundaries.units_boundary.Goals as goal
use Rattle.recoding.proofs.boundaries.units_boundary.Goals.{else-place-ge2-via-then-place-ge2+else-begins_pair, else-place-ge2-via-else-place-ge2}

pub returns-then-begins_pair-clause-end : goal.returns-then-begins_pair-clause-end
returns-then-begins_pair-clause-end g c =
    end_before_pair g.E.ByteOrder.HIGH_FIRST c.args.bytes.now c.args.at (c.args.at - c.args.at % 2) c.requires refl c.if-place-ge2.true
    (rw (take_rest c.args.bytes.now (c.args.at - c.args.at % 2 - 2)) at (c.if-begins_pair.ensures.yes refl))

pub returns-else-place-ge2-clause-end : goal.returns-else-place-ge2-clause-end
returns-else-place-ge2-clause-end g c =
    end_of_units g.E.ByteOrder.HIGH_FIRST c.args.bytes.now c.args.at (c.args.at - c.args.at % 2) c.requires refl
    (elim c.else-place-ge2.branch [
      | else-place-ge2-via-then-place-ge2+else-begins_pair w ↦ λ two. rw (take_rest c.args.bytes.now (c.args.at - c.args.at % 2 - 2)) at (w.if-begins_pair.ensures.no refl)
      | else-place-ge2-via-else-place-ge2 w ↦ λ two. absurd (omega arith)
    ])
