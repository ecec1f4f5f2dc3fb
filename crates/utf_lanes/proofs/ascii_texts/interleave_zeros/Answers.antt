use Rattle.std.proofs.Common.{sym, ◌∙◌, arith}
use Rattle.utf_lanes.proofs.AsciiTexts.{nuls_first, nuls_second}
use Rattle.utf_lanes.proofs.ascii_texts.interleave_zeros.Goals as goal

pub returns-then-HIGH_FIRST-clause-first : goal.returns-then-HIGH_FIRST-clause-first
returns-then-HIGH_FIRST-clause-first g c = rw (sym c.HIGH_FIRST.ensures ∙ c.if-HIGH_FIRST.true) (nuls_first 16 c.args.bytes c.fits-bytes.0 0 8 (omega arith))

pub returns-then-HIGH_FIRST-clause-second : goal.returns-then-HIGH_FIRST-clause-second
returns-then-HIGH_FIRST-clause-second g c = rw (sym c.HIGH_FIRST.ensures ∙ c.if-HIGH_FIRST.true) (nuls_first 16 c.args.bytes c.fits-bytes.0 8 8 (omega arith))

pub returns-else-HIGH_FIRST-clause-first : goal.returns-else-HIGH_FIRST-clause-first
returns-else-HIGH_FIRST-clause-first g c = rw (sym c.HIGH_FIRST.ensures ∙ c.if-HIGH_FIRST.false) (nuls_second 16 c.args.bytes c.fits-bytes.0 0 8 (omega arith))

pub returns-else-HIGH_FIRST-clause-second : goal.returns-else-HIGH_FIRST-clause-second
returns-else-HIGH_FIRST-clause-second g c = rw (sym c.HIGH_FIRST.ensures ∙ c.if-HIGH_FIRST.false) (nuls_second 16 c.args.bytes c.fits-bytes.0 8 8 (omega arith))
