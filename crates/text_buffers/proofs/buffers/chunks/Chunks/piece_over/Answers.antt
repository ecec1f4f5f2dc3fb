use Rattle.std.proofs.Common.{◌≡◌, ◌+◌, ◌-◌, ◌<◌, length, arith, refl, ⊎_elim}
use Rattle.std.specs.List.{concat}
use Rattle.text_runs.specs.PieceBoundaries.{IsLastBetween}
use Rattle.text_buffers.proofs.LookupLemmas.{boundary_in_chunk, front_is, has_place, is_contained}
use Rattle.text_buffers.proofs.NumberLemmas.{ChunkAt, chunk_last}
use Rattle.text_buffers.proofs.buffers.chunks.Chunks.piece_over.Goals as goal

pub returns-then-bytes-at : goal.returns-then-bytes-at
returns-then-bytes-at g c =
    let x = c.chunk.result.now in
    let at : ChunkAt c.args.self.now c.find-spot.result.number c.find-spot.result.place x
    = record { ends = c.chunk.ensures.held.ends; spot = c.find-spot.ensures.spot; lt = omega (arith, c.find-spot.ensures.spot.within); is = c.chunk.ensures.is } in
    let before = c.find-spot.ensures.before in
    let len : length c.bytes-bytes.result.now ≡ length x = rw c.bytes-bytes.ensures refl in
    ⊎_elim
    (λ (here : c.args.at < c.find-spot.result.place + length x). absurd (omega arith))
    (λ (end : c.find-spot.result.place + length x ≡ length (concat c.args.self.now)). omega arith)
    (chunk_last c.args.self.now _ _ x at c.args.at c.find-spot.ensures.has)

pub piece_from-requires : goal.piece_from-requires
piece_from-requires g c =
    let x = c.chunk.result.now in
    let at : ChunkAt c.args.self.now c.find-spot.result.number c.find-spot.result.place x
    = record { ends = c.chunk.ensures.held.ends; spot = c.find-spot.ensures.spot; lt = omega (arith, c.find-spot.ensures.spot.within); is = c.chunk.ensures.is } in
    let len : length c.bytes-bytes.result.now ≡ length x = rw c.bytes-bytes.ensures refl in
    let last : IsLastBetween x (c.args.at - c.find-spot.result.place) c.floor.result = rw c.bytes-bytes.ensures at c.floor.ensures in
    (boundary_in_chunk c.args.self.now _ _ x at _ _ last (omega arith)).0

pub returns : goal.returns
returns g c =
    let x = c.chunk.result.now in
    let at : ChunkAt c.args.self.now c.find-spot.result.number c.find-spot.result.place x
    = record { ends = c.chunk.ensures.held.ends; spot = c.find-spot.ensures.spot; lt = omega (arith, c.find-spot.ensures.spot.within); is = c.chunk.ensures.is } in
    let n = c.args.at - c.find-spot.result.place in
    let before = c.find-spot.ensures.before in
    let len : length c.bytes-bytes.result.now ≡ length x = rw c.bytes-bytes.ensures refl in
    let lt : n < length x = omega arith in
    let last : IsLastBetween x n c.floor.result = rw c.bytes-bytes.ensures at c.floor.ensures in
    let edge = boundary_in_chunk c.args.self.now _ _ x at n c.floor.result last lt in
    let front = front_is (concat c.args.self.now) (c.find-spot.result.place + c.floor.result) c.piece_from.result edge.0 edge.1 c.piece_from.ensures.place c.piece_from.ensures.piece in
    let place : c.find-spot.result.place + n ≡ c.args.at = omega arith in (
      is_contained (concat c.args.self.now) (c.find-spot.result.place + c.floor.result) c.piece_from.result c.piece_from.ensures.place front,
      rw place at (has_place c.args.self.now _ _ x at n c.floor.result c.piece_from.result last lt c.piece_from.ensures.place front),
    )
