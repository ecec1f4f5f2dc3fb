use Rattle.std.proofs.Common.{◌≡◌, ◌+◌, ◌-◌, length, arith}
use Rattle.text_buffers.proofs.BlockMoves.{copied_up}
use Rattle.text_buffers.proofs.lists.move_blocks_up.Goals as goal

pub loop-left-preserved : goal.loop-left-preserved
loop-left-preserved g c =
    let gap = c.args.gap in
    let left = c.loop-left.left in
    let count = length c.args.items.now - gap in
    let i = c.loop-left.invariant in
    let within = i.within in
    let some = c.loop-left-test.true in
    let block : left - g.row.BLOCK + g.row.BLOCK ≡ left = omega arith in
    let end : left + (count - left) ≡ count = omega arith in
    let place : gap + (left - g.row.BLOCK) + g.row.BLOCK ≡ gap + left = omega arith in
    let up = copied_up c.args.items.now (left - g.row.BLOCK) g.row.BLOCK (count - left) (gap + (left - g.row.BLOCK)) (omega arith) (omega arith) in
    record { moved = rw (c.move_block.ensures, block, i.moved) (rw (block, end, place) at up); within = omega arith }

pub returns : goal.returns
returns g c =
    let gap = c.args.gap in
    let left = c.loop-left.left in
    let count = length c.args.items.now - gap in
    let i = c.loop-left.invariant in
    let within = i.within in
    let end : 0 + left + (count - left) ≡ count = omega arith in
    let none : 0 + left ≡ left = omega arith in
    let up = copied_up c.args.items.now 0 left (count - left) gap (omega arith) (omega arith) in
    rw (c.copy_within-2.ensures.after, i.moved) (rw (end, none) at up)
