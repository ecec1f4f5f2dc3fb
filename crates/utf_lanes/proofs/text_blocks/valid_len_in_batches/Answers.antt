use Rattle.std.proofs.Common.{◌+◌, arith}
use Rattle.utf_lanes.proofs.LaneLemmas.{ascii_block, ascii_on, ascii_follows, follow_on}
use Rattle.utf_lanes.proofs.text_blocks.valid_len_in_batches.Goals as goal

pub loop-end-preserved-then-ends_character : goal.loop-end-preserved-then-ends_character
loop-end-preserved-then-ends_character c =
    let xs = c.args.bytes.now in
    let place = c.loop-end.end in
    let end = c.ascii_wide_end-end.result in
    let block = ascii_block xs place (c.is_ascii_block.ensures.ascii c.if-is_ascii_block.true) in
    let ascii = ascii_on xs place (place + 64) end block c.ascii_wide_end-end.ensures.ascii in
    let new = ascii_follows xs place end (c.ends_character.ensures.closed c.if-ends_character.true) ascii (omega arith) in
    (omega arith, omega arith, omega arith, follow_on xs c.args.start place end c.loop-end.invariant.3 new)
