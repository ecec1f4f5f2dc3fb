use Rattle.std.proofs.Common.{arith, true, false}
use Rattle.utf_lanes.proofs.CompressRows.{row_len, slots_right, ends_right, is_row}
use Rattle.utf_lanes.specs.UnitCodes.{row_places}
use Rattle.utf_lanes.specs.declared.shuffles.TheConstants.{COMPRESS_ENDS, COMPRESS_LANES}
use Rattle.utf_lanes.proofs.slots.compress_row.Goals as goal

pub returns-then-short : goal.returns-then-short
returns-then-short c =
    let row = is_row COMPRESS_ENDS (row_places true) (row_len true) 8 ends_right c.args.mask c.requires in
    let few = row.few in
    rw c.if-short.true (record { row = row; most = omega arith; few = omega arith })

pub returns-else-short : goal.returns-else-short
returns-else-short c =
    let row = is_row COMPRESS_LANES (row_places false) (row_len false) 4 slots_right c.args.mask c.requires in
    let few = row.few in
    rw c.if-short.false (record { row = row; most = omega arith; few = omega arith })
