use Rattle.utf_lanes.specs.BytePairs.{units_of}
use Rattle.surveys.proofs.FedUnits.{Counted}
use Rattle.surveys.proofs.unit_counts.block_counts.Given as goal

abbrev pub invariant-loop-k : goal.invariant-loop-k
invariant-loop-k g l = Counted l.fn.before (units_of g.E.ByteOrder.HIGH_FIRST l.bytes) l.k l.plain l.stray l.unpaired l.last
