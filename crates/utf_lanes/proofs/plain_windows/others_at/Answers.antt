use Rattle.std.proofs.Common.{arith, lit≤}
use Rattle.utf_lanes.proofs.MaskLanes.{reached}
use Rattle.utf_lanes.proofs.PlainWindows.{others_counted}
use Rattle.utf_lanes.proofs.plain_windows.others_at.Goals as goal

pub returns-clause-set : goal.returns-clause-set
returns-clause-set c = reached 64 (lit≤ tt) c.args.bytes.now c.args.place c.requires c.type_inv.bytes 0x80

pub returns-clause-count : goal.returns-clause-count
returns-clause-count c = others_counted c.args.bytes.now c.args.place (omega arith)
