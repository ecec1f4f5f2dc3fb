use Rattle.std.proofs.Common.{sym, ◌∙◌}
use Rattle.utf_lanes.proofs.BlockUnits.{first_pairs_at, last_pairs_at}
use Rattle.utf_lanes.proofs.text_units.paired.Goals as goal

pub returns-then-HIGH_FIRST-clause-front : goal.returns-then-HIGH_FIRST-clause-front
returns-then-HIGH_FIRST-clause-front g c = rw (sym c.HIGH_FIRST.ensures ∙ c.if-HIGH_FIRST.true) (first_pairs_at c.args.high c.args.low c.fits-high.0 c.fits-low.0)

pub returns-then-HIGH_FIRST-clause-back : goal.returns-then-HIGH_FIRST-clause-back
returns-then-HIGH_FIRST-clause-back g c = rw (sym c.HIGH_FIRST.ensures ∙ c.if-HIGH_FIRST.true) (last_pairs_at c.args.high c.args.low c.fits-high.0 c.fits-low.0)

pub returns-else-HIGH_FIRST-clause-front : goal.returns-else-HIGH_FIRST-clause-front
returns-else-HIGH_FIRST-clause-front g c = rw (sym c.HIGH_FIRST.ensures ∙ c.if-HIGH_FIRST.false) (first_pairs_at c.args.low c.args.high c.fits-low.0 c.fits-high.0)

pub returns-else-HIGH_FIRST-clause-back : goal.returns-else-HIGH_FIRST-clause-back
returns-else-HIGH_FIRST-clause-back g c = rw (sym c.HIGH_FIRST.ensures ∙ c.if-HIGH_FIRST.false) (last_pairs_at c.args.low c.args.high c.fits-low.0 c.fits-high.0)
