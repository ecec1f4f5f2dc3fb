use Rattle.std.proofs.Common.{arith}
use Rattle.utf_lanes.specs.BytePairs.{units_of}
use Rattle.utf_lanes.proofs.UnitPairs.{pair_on}
use Rattle.utf_lanes.proofs.unit_blocks.paired_wide.Goals as goal

pub loop-place-preserved : goal.loop-place-preserved
loop-place-preserved g c = record {
  least = omega arith;
  within = omega arith;
  paired = pair_on (units_of g.E.ByteOrder.HIGH_FIRST c.args.bytes.now) c.args.start c.loop-place.place _ c.loop-place.invariant.paired (c.is_paired_block.ensures c.if-not-is_paired_block.false);
}
