use Rattle.std.proofs.Common.{arith, rules}
use Rattle.utf_lanes.proofs.CompressRows.{part_stored}
use Rattle.utf_lanes.proofs.slots.write_row.Goals as goal

pub returns-clause-written : goal.returns-clause-written
returns-clause-written c = record { len = search rules; front = part_stored c.args.room.now c.args.row.bytes c.args.at c.args.row.len (omega arith) (omega arith) }
