use Rattle.std.proofs.Common.{◌≡◌, ◌-◌, ◌≤◌, length, take}
use Rattle.std.specs.List.{concat}
use Rattle.text_buffers.specs.Chunks.{IsSpot}
use Rattle.text_buffers.specs.Counts.{counts_of}
use Rattle.text_buffers.specs.Measures.{measure_of}
use Rattle.text_buffers.proofs.buffers.chunks.Chunks.find_number.Given as goal

abbrev pub invariant-loop-found : goal.invariant-loop-found
invariant-loop-found g l =
    IsSpot l.self l.found.spot.number l.found.spot.place × (l.found.before ≡ measure_of l.measure (counts_of (concat (take l.found.spot.number l.self)))) × (l.found.before ≤ l.number)

abbrev pub decreases-loop-found : goal.decreases-loop-found
decreases-loop-found g l = length l.self - l.found.spot.number
