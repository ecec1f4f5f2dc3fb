use Rattle.std.proofs.Common.{◌≡◌, ◌+◌, ◌≤◌, length, arith}
use Rattle.std.proofs.lemmas.Simd.{take_more_put_chunk}
use Rattle.recoding.proofs.fills.lay_wide.Goals as goal

pub returns-clause-fills : goal.returns-clause-fills
returns-clause-fills c =
    let block = c.args.block in
    let room = c.args.room.now in
    let place = c.args.place in
    let wide : length block ≡ 64 = c.fits-block.0 in
    let fits : place + length block ≤ length room = omega (arith, c.requires) in
    record {
      ordered = omega arith;
      fits = c.requires;
      front = take_more_put_chunk place room block (place + 64) (omega arith) c.requires;
    }
