use Rattle.std.proofs.lemmas.List.{take_rest}
use Rattle.utf_lanes.proofs.LaterText.{later_follow}
use Rattle.utf_lanes.proofs.text_blocks.text_end.Goals as goal

pub last_code_start-requires-clause-follow : goal.last_code_start-requires-clause-follow
last_code_start-requires-clause-follow c =
    let xs = c.args.bytes.now in
    rw (take_rest xs c.args.start) (later_follow xs c.args.start c.valid_len_in_batches-end.result c.requires.start c.requires.closed c.valid_len_in_batches-end.ensures.follow)
