use Rattle.std.proofs.Common.{arith, refl}
use Rattle.text_buffers.proofs.LineFeedLemmas.{line_in_chunk}
use Rattle.text_buffers.proofs.NumberLemmas.{ChunkAt, chunk_within}
use Rattle.text_buffers.proofs.buffers.chunks.Chunks.line_start.Goals as goal

pub overflow_add-result : goal.overflow_add-result
overflow_add-result g c =
    let at : ChunkAt c.args.self.now c.in_ok-found.found.spot.number c.in_ok-found.found.spot.place c.chunk.result.now
    = record { ends = c.chunk.ensures.held.ends; spot = c.in_ok-found.ensures.spot; lt = c.in_ok-found.ensures.some; is = c.chunk.ensures.is } in
    let start = rw c.bytes-bytes.ensures at c.in_ok-end.ensures in
    let end = start.within in
    omega (arith, chunk_within c.args.self.now _ _ c.chunk.result.now at)

pub returns : goal.returns
returns g c =
    let at : ChunkAt c.args.self.now c.in_ok-found.found.spot.number c.in_ok-found.found.spot.place c.chunk.result.now
    = record { ends = c.chunk.ensures.held.ends; spot = c.in_ok-found.ensures.spot; lt = c.in_ok-found.ensures.some; is = c.chunk.ensures.is } in
    let start = rw c.bytes-bytes.ensures at c.in_ok-end.ensures in
    line_in_chunk c.args.self.now _ _ c.chunk.result.now at c.args.line c.in_ok-found.found.before c.in_ok-end.end _ start c.in_ok-found.ensures.before c.in_ok-found.ensures.from (omega arith) refl
