use Rattle.std.proofs.Common.{◌≡◌, ◌+◌, ◌-◌, ◌*◌, length, arith}
use Rattle.text_buffers.proofs.BlockMoves.{copied_up, no_chunk, one_chunk}
use Rattle.text_buffers.proofs.lists.move_up_by.Goals as goal

pub loop-left-preserved : goal.loop-left-preserved
loop-left-preserved g c =
    let gap = g.row.GAP in
    let left = c.loop-left.left in
    let from = (left - 1) * gap in
    let count = length c.args.items.now - gap in
    let i = c.loop-left.invariant in
    let within = i.within in
    let some = c.loop-left-test.true in
    let step : from + gap ≡ left * gap = one_chunk left gap some in
    let end : left * gap + (count - left * gap) ≡ count = omega arith in
    let up = copied_up c.args.items.now from gap (count - left * gap) (from + gap) (omega arith) (omega (arith, step)) in
    record { moved = rw (c.move_chunk_up.ensures, i.moved, step) (rw (step, end) at up); within = omega (arith, step) }

pub returns : goal.returns
returns g c =
    let gap = g.row.GAP in
    let i = c.loop-left.invariant in
    let none : c.loop-left.left * gap ≡ 0 = no_chunk c.loop-left.left gap c.loop-left-test.false in
    let place : c.loop-left.left * gap + gap ≡ gap = omega (arith, none) in
    rw (place, none) at i.moved
