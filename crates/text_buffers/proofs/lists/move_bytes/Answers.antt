use Rattle.std.proofs.Common.{arith}
use Rattle.text_buffers.proofs.BlockMoves.{moved_down_in_part, moved_up_in_part}
use Rattle.text_buffers.proofs.lists.move_bytes.Goals as goal

pub returns-then-to-from : goal.returns-then-to-from
returns-then-to-from c =
    let asked = c.requires in
    let down = c.if-to-from.true in
    rw c.move_blocks_down.ensures (moved_down_in_part c.args.bytes.now c.args.from c.args.end c.args.to (omega arith) asked.ordered asked.within)

pub returns-else-to-from : goal.returns-else-to-from
returns-else-to-from c =
    let asked = c.requires in
    let up = c.if-to-from.false in
    rw c.move_blocks_up.ensures (moved_up_in_part c.args.bytes.now c.args.from c.args.end c.args.to (omega arith) asked.ordered asked.room)
