use Rattle.std.proofs.Common.{sym, ◌∙◌, arith}
use Rattle.utf_lanes.proofs.AsciiTexts.{interleaved_lanes}
use Rattle.utf_lanes.proofs.unit_mending.interleaved.Goals as goal

pub returns-then-HIGH_FIRST-clause-first : goal.returns-then-HIGH_FIRST-clause-first
returns-then-HIGH_FIRST-clause-first g c = rw (sym c.HIGH_FIRST.ensures ∙ c.if-HIGH_FIRST.true) (interleaved_lanes c.args.high c.args.low c.fits-high.0 c.fits-low.0 0 16 (omega arith))

pub returns-then-HIGH_FIRST-clause-second : goal.returns-then-HIGH_FIRST-clause-second
returns-then-HIGH_FIRST-clause-second g c = rw (sym c.HIGH_FIRST.ensures ∙ c.if-HIGH_FIRST.true) (interleaved_lanes c.args.high c.args.low c.fits-high.0 c.fits-low.0 16 16 (omega arith))

pub returns-else-HIGH_FIRST-clause-first : goal.returns-else-HIGH_FIRST-clause-first
returns-else-HIGH_FIRST-clause-first g c = rw (sym c.HIGH_FIRST.ensures ∙ c.if-HIGH_FIRST.false) (interleaved_lanes c.args.low c.args.high c.fits-low.0 c.fits-high.0 0 16 (omega arith))

pub returns-else-HIGH_FIRST-clause-second : goal.returns-else-HIGH_FIRST-clause-second
returns-else-HIGH_FIRST-clause-second g c = rw (sym c.HIGH_FIRST.ensures ∙ c.if-HIGH_FIRST.false) (interleaved_lanes c.args.low c.args.high c.fits-low.0 c.fits-high.0 16 16 (omega arith))
