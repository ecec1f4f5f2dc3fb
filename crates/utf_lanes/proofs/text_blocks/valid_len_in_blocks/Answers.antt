use Rattle.std.proofs.Common.{◌≡◌, ◌+◌, arith}
use Rattle.utf_lanes.specs.TextBlocks.{AllMayFollow}
use Rattle.utf_lanes.proofs.LaneLemmas.{follow_on}
use Rattle.utf_lanes.proofs.text_blocks.valid_len_in_blocks.Goals as goal

pub returns-clause-follow : goal.returns-clause-follow
returns-clause-follow c =
    let bytes = c.args.bytes.now in
    let end : 16 + c.valid_lanes.result ≡ 32 = omega arith in
    let before : AllMayFollow bytes 16 32 = rw end at c.valid_lanes.ensures.follow in
    follow_on bytes 16 32 c.valid_len_in_batches.result before c.valid_len_in_batches.ensures.follow
