use Rattle.std.proofs.Common.{◌-◌, length}
use Rattle.std.specs.List.{concat}
use Rattle.text_buffers.specs.Chunks.{IsSpot}
use Rattle.text_buffers.proofs.NextFaultLemmas.{NoneBetween}
use Rattle.text_buffers.proofs.buffers.chunks.Chunks.fault_from.Given as goal

abbrev pub invariant-loop-spot : goal.invariant-loop-spot
invariant-loop-spot g l = IsSpot l.self l.spot.number l.spot.place × NoneBetween (concat l.self) l.at l.spot.place

abbrev pub decreases-loop-spot : goal.decreases-loop-spot
decreases-loop-spot g l = length l.self - l.spot.number
