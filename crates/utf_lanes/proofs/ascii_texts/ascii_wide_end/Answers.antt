use Rattle.std.proofs.Common.{◌+◌}
use Rattle.utf_lanes.proofs.LaneLemmas.{ascii_block, ascii_on}
use Rattle.utf_lanes.proofs.ascii_texts.ascii_wide_end.Goals as goal

pub returns-then-is_ascii_block-clause-ascii : goal.returns-then-is_ascii_block-clause-ascii
returns-then-is_ascii_block-clause-ascii c =
    let xs = c.args.bytes.now in
    let place = c.ascii_end-place.result in
    let block = ascii_block xs place (c.is_ascii_block.ensures.ascii c.if-is_ascii_block.true) in
    ascii_on xs c.args.start place (place + 64) c.ascii_end-place.ensures.ascii block
