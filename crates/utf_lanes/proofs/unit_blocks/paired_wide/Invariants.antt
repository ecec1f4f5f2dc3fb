use Rattle.std.proofs.Common.{◌-◌, length}
use Rattle.utf_lanes.specs.UnitBlocks.{PairsTo}
use Rattle.utf_lanes.proofs.unit_blocks.paired_wide.Given as goal

abbrev pub invariant-loop-place : goal.invariant-loop-place
invariant-loop-place g l = PairsTo g.E.ByteOrder.HIGH_FIRST l.bytes l.start l.place

abbrev pub decreases-loop-place : goal.decreases-loop-place
decreases-loop-place g l = length l.bytes - l.place
