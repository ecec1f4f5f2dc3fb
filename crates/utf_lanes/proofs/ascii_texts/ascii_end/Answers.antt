use Rattle.std.proofs.Common.{◌+◌, ◌*◌, arith}
use Rattle.utf_lanes.proofs.LaneLemmas.{ascii_on}
use Rattle.utf_lanes.proofs.ascii_texts.ascii_end.Goals as goal

pub loop-place-preserved : goal.loop-place-preserved
loop-place-preserved g c =
    let place = c.loop-place.place in
    let blocks = c.are_ascii_blocks.ensures c.if-not-are_ascii_blocks.false in
    (omega arith, omega arith, ascii_on c.args.bytes.now c.args.start place (place + 64 * g.row.BLOCKS) c.loop-place.invariant.2 blocks)
