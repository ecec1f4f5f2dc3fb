use Rattle.std.proofs.Common.{◌∙◌, arith}
use Rattle.utf_lanes.proofs.AsciiTexts.{nuls_beside}
use Rattle.utf_lanes.proofs.text_units.interleave_zeros_wide.Goals as goal

pub returns-clause-first : goal.returns-clause-first
returns-clause-first g c = c.interleave_wide.ensures.first ∙ nuls_beside g.E.ByteOrder.HIGH_FIRST c.args.bytes 0 32 (omega arith)

pub returns-clause-second : goal.returns-clause-second
returns-clause-second g c = c.interleave_wide.ensures.second ∙ nuls_beside g.E.ByteOrder.HIGH_FIRST c.args.bytes 32 32 (omega arith)
