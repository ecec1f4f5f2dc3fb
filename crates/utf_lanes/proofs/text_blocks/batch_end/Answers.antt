use Rattle.std.proofs.Common.{◌+◌, arith}
use Rattle.utf_lanes.proofs.LaneLemmas.{follow_on}
use Rattle.utf_lanes.proofs.text_blocks.batch_end.Goals as goal

pub loop-place-preserved : goal.loop-place-preserved
loop-place-preserved c =
    let place = c.loop-place.place in
    let block = c.follows_block-in-loop-place.ensures.follow c.if-not-follows_block-2.false in
    (omega arith, omega arith, follow_on c.args.bytes.now c.args.start place (place + 64) c.loop-place.invariant.2 block)
