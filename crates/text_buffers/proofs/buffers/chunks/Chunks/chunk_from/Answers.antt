use Rattle.std.proofs.Common.{◌≡◌, ◌-◌, length, min, arith}
use Rattle.std.proofs.lemmas.List.{take_rest}
use Rattle.text_buffers.proofs.NumberLemmas.{ChunkAt, rest_of_chunk, some_of_chunk}
use Rattle.text_buffers.proofs.buffers.chunks.Chunks.chunk_from.Goals as goal

pub returns-clause-bytes : goal.returns-clause-bytes
returns-clause-bytes g c =
    let x = c.chunk.result.now in
    let at : ChunkAt c.args.self.now c.find-spot.result.number c.find-spot.result.place x
    = record { ends = c.chunk.ensures.held.ends; spot = c.find-spot.ensures.spot; lt = omega (arith, c.find-spot.ensures.spot.within); is = c.chunk.ensures.is } in
    let from : c.min.result ≡ min (length x) (c.args.at - c.find-spot.result.place) = rw c.bytes-bytes.ensures at c.min.ensures in
    rw (c.bytes-bytes.ensures, from, take_rest x (min (length x) (c.args.at - c.find-spot.result.place)))
    (rest_of_chunk c.args.self.now c.find-spot.result.number c.find-spot.result.place x at c.args.at c.find-spot.ensures.before)

pub returns-clause-some : goal.returns-clause-some
returns-clause-some g c lt =
    let x = c.chunk.result.now in
    let at : ChunkAt c.args.self.now c.find-spot.result.number c.find-spot.result.place x
    = record { ends = c.chunk.ensures.held.ends; spot = c.find-spot.ensures.spot; lt = omega (arith, c.find-spot.ensures.spot.within); is = c.chunk.ensures.is } in
    let from : c.min.result ≡ min (length x) (c.args.at - c.find-spot.result.place) = rw c.bytes-bytes.ensures at c.min.ensures in
    rw (c.bytes-bytes.ensures, from, take_rest x (min (length x) (c.args.at - c.find-spot.result.place)))
    (some_of_chunk c.args.self.now c.find-spot.result.number c.find-spot.result.place x at c.args.at c.find-spot.ensures.before c.find-spot.ensures.has lt)
