use Rattle.std.proofs.Common.{arith, ◌+◌, ◌∙◌}
use Rattle.std.proofs.lemmas.Simd.{length-put_chunk}
use lib.Lanes.{chunk, put_chunk}
use Rattle.utf_lanes.proofs.MendedTexts.{two_chunks_at}
use Rattle.utf_lanes.proofs.mending.copy_64.Goals as goal

pub returns : goal.returns
returns c =
    let xs = c.args.bytes.now in
    let room = c.args.room.now in
    let at = c.args.at in
    let place = c.args.place in
    record {
      len = length-put_chunk (at + 32) (put_chunk at room (chunk place 32 xs)) (chunk (place + 32) 32 xs) ∙ length-put_chunk at room (chunk place 32 xs);
      front = two_chunks_at room xs at place (omega arith) (omega arith);
    }
