use Rattle.std.proofs.Common.{refl}
use Rattle.utf_lanes.proofs.TextUnits.{Writes-then}
use Rattle.utf_lanes.proofs.slots.write_rows.Goals as goal

pub returns-clause-written : goal.returns-clause-written
returns-clause-written c = Writes-then c.write_row-middle.ensures.written c.write_row.ensures.written refl
