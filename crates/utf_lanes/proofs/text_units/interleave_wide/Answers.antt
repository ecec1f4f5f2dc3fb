use Rattle.std.proofs.Common.{sym, ◌∙◌, arith}
use Rattle.utf_lanes.proofs.AsciiTexts.{interleaved_lanes}
use Rattle.utf_lanes.proofs.text_units.interleave_wide.Goals as goal

pub returns-then-HIGH_FIRST-clause-first : goal.returns-then-HIGH_FIRST-clause-first
returns-then-HIGH_FIRST-clause-first g c = rw (sym c.HIGH_FIRST.ensures ∙ c.if-HIGH_FIRST.true) (interleaved_lanes c.args.highs c.args.lows c.fits-highs.0 c.fits-lows.0 0 32 (omega arith))

pub returns-then-HIGH_FIRST-clause-second : goal.returns-then-HIGH_FIRST-clause-second
returns-then-HIGH_FIRST-clause-second g c = rw (sym c.HIGH_FIRST.ensures ∙ c.if-HIGH_FIRST.true) (interleaved_lanes c.args.highs c.args.lows c.fits-highs.0 c.fits-lows.0 32 32 (omega arith))

pub returns-else-HIGH_FIRST-clause-first : goal.returns-else-HIGH_FIRST-clause-first
returns-else-HIGH_FIRST-clause-first g c = rw (sym c.HIGH_FIRST.ensures ∙ c.if-HIGH_FIRST.false) (interleaved_lanes c.args.lows c.args.highs c.fits-lows.0 c.fits-highs.0 0 32 (omega arith))

pub returns-else-HIGH_FIRST-clause-second : goal.returns-else-HIGH_FIRST-clause-second
returns-else-HIGH_FIRST-clause-second g c = rw (sym c.HIGH_FIRST.ensures ∙ c.if-HIGH_FIRST.false) (interleaved_lanes c.args.lows c.args.highs c.fits-lows.0 c.fits-highs.0 32 32 (omega arith))
