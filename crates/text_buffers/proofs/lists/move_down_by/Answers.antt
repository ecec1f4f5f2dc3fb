use Rattle.std.proofs.Common.{◌≡◌, ◌≤◌, ◌+◌, ◌-◌, ◌*◌, length, arith}
use Rattle.text_buffers.proofs.BlockMoves.{copied_front, next_chunk, chunks_within}
use Rattle.text_buffers.proofs.lists.move_down_by.Goals as goal

pub loop-next-preserved : goal.loop-next-preserved
loop-next-preserved g c =
    let gap = g.row.GAP in
    let next = c.loop-next.next in
    let len = length c.args.items.now in
    let i = c.loop-next.invariant in
    let asked = c.requires in
    let more = c.loop-next-test.true in
    let on : (next + 1) * gap ≡ next * gap + gap = next_chunk next gap in
    let room : (next + 1) * gap ≤ len - gap = chunks_within (next + 1) (len - gap) gap (omega arith) in
    let sum : gap + next * gap ≡ next * gap + gap = omega arith in
    let front = copied_front c.args.items.now gap (next * gap) gap (omega (arith, on)) in
    record { moved = rw (c.move_chunk_down.ensures, i.moved, on) (rw sum at front); within = omega arith }

pub returns : goal.returns
returns g c =
    let gap = g.row.GAP in
    let next = c.loop-next.next in
    let len = length c.args.items.now in
    let i = c.loop-next.invariant in
    let within = i.within in
    let sum : gap + next * gap ≡ next * gap + gap = omega arith in
    let end : next * gap + gap + (len - (next * gap + gap)) ≡ len = omega arith in
    let front = copied_front c.args.items.now gap (next * gap) (len - (next * gap + gap)) (omega arith) in
    rw (c.copy_within.ensures.after, i.moved) (rw (sum, end) at front)
