use Rattle.std.specs.List.{concat}
use Rattle.text_buffers.specs.Chunks.{IsSpot}
use Rattle.text_buffers.proofs.PreviousFaultLemmas.{NoneBack}
use Rattle.text_buffers.proofs.buffers.chunks.Chunks.fault_before.Given as goal

abbrev pub invariant-loop-spot : goal.invariant-loop-spot
invariant-loop-spot g l = IsSpot l.self l.spot.number l.spot.place × NoneBack (concat l.self) l.at l.spot.place

abbrev pub decreases-loop-spot : goal.decreases-loop-spot
decreases-loop-spot g l = l.spot.number
