use Rattle.std.proofs.Common.{◌-◌, arith, refl}
use Rattle.utf_lanes.specs.BytePairs.{units_of}
use Rattle.utf_lanes.proofs.UnitPairs.{bytes_loaded, judged_from}
use Rattle.utf_lanes.proofs.unit_blocks.unpaired.Goals as goal

pub returns : goal.returns
returns g c =
    let high = g.E.ByteOrder.HIGH_FIRST in
    let bytes = c.args.bytes.now in
    let place = c.args.place in
    judged_from (units_of high bytes) place c.requires.start c.unpaired_lanes.ensures (bytes_loaded high bytes _ (place - 1) (omega arith) (omega arith)) (bytes_loaded high bytes _ place refl (omega arith))
