use Rattle.std.proofs.Common.{◌∙◌, arith}
use Rattle.utf_lanes.proofs.PlainWindows.{plain_halves}
use Rattle.utf_lanes.proofs.plain_windows.plain_units.Goals as goal

pub returns-clause-first : goal.returns-clause-first
returns-clause-first g c = c.interleave_wide.ensures.first ∙ plain_halves c.args.bytes.now c.args.place c.requires g.E.ByteOrder.HIGH_FIRST 0 32 (omega arith)

pub returns-clause-second : goal.returns-clause-second
returns-clause-second g c = c.interleave_wide.ensures.second ∙ plain_halves c.args.bytes.now c.args.place c.requires g.E.ByteOrder.HIGH_FIRST 32 32 (omega arith)
