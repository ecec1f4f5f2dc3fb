use Rattle.std.proofs.Common.{◌≡◌, ◌-◌, Some, arith}
use Rattle.std.specs.Prelude.{option_map, slice_get}
use Rattle.encode_unicode.specs.Pieces.{pieces}
use Rattle.encode_unicode.specs.Window.{Item}
use Rattle.text_buffers.proofs.LookupLemmas.{number_is_found}
use Rattle.text_runs.proofs.NumberPlaces.{number_within}
use Rattle.text_buffers.proofs.NumberLemmas.{ChunkAt, chunk_within}
use Rattle.text_buffers.proofs.buffers.chunks.Chunks.place_of.Goals as goal

pub overflow_add-result : goal.overflow_add-result
overflow_add-result g c =
    let x = c.chunk.result.now in
    let at : ChunkAt c.args.self.now c.in_ok-found.found.spot.number c.in_ok-found.found.spot.place x
    = record { ends = c.chunk.ensures.held.ends; spot = c.in_ok-found.ensures.spot; lt = c.in_ok-found.ensures.some; is = c.chunk.ensures.is } in
    let within = number_within x _ c.in_ok-place.place (rw c.bytes-bytes.ensures at c.in_ok-place.ensures) in
    omega (arith, chunk_within c.args.self.now _ _ x at)

pub returns : goal.returns
returns g c =
    let x = c.chunk.result.now in
    let n = c.args.number - c.in_ok-found.found.before in
    let at : ChunkAt c.args.self.now c.in_ok-found.found.spot.number c.in_ok-found.found.spot.place x
    = record { ends = c.chunk.ensures.held.ends; spot = c.in_ok-found.ensures.spot; lt = c.in_ok-found.ensures.some; is = c.chunk.ensures.is } in
    let read : Some c.in_ok-place.place ≡ option_map (λ (z : Item). z.0) (slice_get (pieces x) n) = rw c.bytes-bytes.ensures at c.in_ok-place.ensures in
    number_is_found c.args.self.now _ _ x at c.args.number n c.in_ok-place.place (omega (arith, c.in_ok-found.ensures.before, c.in_ok-found.ensures.from)) read
