use Rattle.std.proofs.Common.{◌+◌, ◌≤◌, length, arith}
use Rattle.std.specs.List.{concat}
use Rattle.text_buffers.proofs.ChunkLists.{next_spot, spot_within}
use Rattle.text_buffers.proofs.buffers.chunks.Chunks.find_end.Goals as goal

pub overflow_add-spot : goal.overflow_add-spot
overflow_add-spot g c =
    let next = next_spot c.args.self.now c.loop-spot.spot.number c.loop-spot.spot.place c.chunk.result.now
    c.loop-spot.invariant.0 (omega arith) c.chunk.ensures.is in
    let within : c.loop-spot.spot.place + length c.chunk.result.now ≤ length (concat c.args.self.now) = spot_within c.args.self.now _ _ next in
    omega arith

pub loop-spot-preserved : goal.loop-spot-preserved
loop-spot-preserved g c =
    let next = next_spot c.args.self.now c.loop-spot.spot.number c.loop-spot.spot.place c.chunk.result.now
    c.loop-spot.invariant.0 (omega arith) c.chunk.ensures.is in
    (rw c.len-in-loop-spot.ensures next, omega arith)
