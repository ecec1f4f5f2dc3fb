use Rattle.std.proofs.Common.{length, ◌-◌, ◌≤◌}
use Rattle.text_buffers.specs.Chunks.{IsSpot}
use Rattle.text_buffers.proofs.buffers.chunks.Chunks.find_end.Given as goal

abbrev pub invariant-loop-spot : goal.invariant-loop-spot
invariant-loop-spot g l = IsSpot l.self l.spot.number l.spot.place × (l.fn.from.number ≤ l.spot.number)

abbrev pub decreases-loop-spot : goal.decreases-loop-spot
decreases-loop-spot g l = length l.self - l.spot.number
