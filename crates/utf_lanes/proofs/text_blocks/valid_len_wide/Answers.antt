use Rattle.std.proofs.Common.{◌+◌, arith}
use Rattle.utf_lanes.proofs.LaneLemmas.{ascii_block, ascii_on, ascii_follows, follow_on}
use Rattle.utf_lanes.proofs.text_blocks.valid_len_wide.Goals as goal

pub loop-place-preserved-then-ends_character : goal.loop-place-preserved-then-ends_character
loop-place-preserved-then-ends_character c =
    let xs = c.args.bytes.now in
    let place = c.loop-place.place in
    let end = c.ascii_end-place.result in
    let block = ascii_block xs place (c.is_ascii_block.ensures.ascii c.if-is_ascii_block.true) in
    let ascii = ascii_on xs place (place + 64) end block c.ascii_end-place.ensures.ascii in
    let new = ascii_follows xs place end (c.ends_character.ensures.closed c.if-ends_character.true) ascii (omega arith) in
    (omega arith, omega arith, follow_on xs c.args.start place end c.loop-place.invariant.2 new)

pub loop-place-preserved : goal.loop-place-preserved
loop-place-preserved c =
    let place = c.loop-place.place in
    (omega arith, omega arith, follow_on c.args.bytes.now c.args.start place (place + 64) c.loop-place.invariant.2 (c.follows_block.ensures.follow c.if-follows_block.true))
