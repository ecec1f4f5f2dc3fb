use Rattle.utf_lanes.proofs.UnitPairs.{lanes_judged}
use Rattle.utf_lanes.proofs.unit_blocks.unpaired_lanes.Goals as goal

pub returns : goal.returns
returns g c =
    let bits = c.upper_bits-bits.ensures in
    lanes_judged g.E.ByteOrder.HIGH_FIRST c.args.before c.args.here c.upper_bits-bits.result c.fits-before c.fits-here bits.len bits.lanes bits.others c.where_equal.ensures c.where_equal-2.ensures
