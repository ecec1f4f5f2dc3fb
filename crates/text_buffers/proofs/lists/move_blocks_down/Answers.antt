use Rattle.std.proofs.Common.{◌≡◌, ◌+◌, ◌-◌, length, arith}
use Rattle.text_buffers.proofs.BlockMoves.{copied_front}
use Rattle.text_buffers.proofs.lists.move_blocks_down.Goals as goal

pub loop-next-preserved : goal.loop-next-preserved
loop-next-preserved g c =
    let gap = c.args.gap in
    let next = c.loop-next.next in
    let i = c.loop-next.invariant in
    let least = i.least in
    let most = i.most in
    let some = c.loop-next-test.true in
    let sum : gap + (next - gap) ≡ next = omega arith in
    let down = copied_front c.args.items.now gap (next - gap) g.row.BLOCK (omega arith) in
    record { moved = rw (c.move_block.ensures, i.moved) (rw sum at down); least = omega arith; most = omega arith }

pub returns : goal.returns
returns g c =
    let gap = c.args.gap in
    let next = c.loop-next.next in
    let i = c.loop-next.invariant in
    let least = i.least in
    let most = i.most in
    let sum : gap + (next - gap) ≡ next = omega arith in
    let end : next + (length c.args.items.now - next) ≡ length c.args.items.now = omega arith in
    let down = copied_front c.args.items.now gap (next - gap) (length c.args.items.now - next) (omega arith) in
    rw (c.copy_within-2.ensures.after, i.moved) (rw (sum, end) at down)
