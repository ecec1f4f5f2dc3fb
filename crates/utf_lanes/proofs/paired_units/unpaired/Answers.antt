use Rattle.std.proofs.Common.{◌-◌, arith, refl}
use Rattle.utf_lanes.proofs.UnitPairs.{judged_from, units_loaded}
use Rattle.utf_lanes.proofs.paired_units.unpaired.Goals as goal

pub returns : goal.returns
returns c =
    let units = c.args.units.now in
    let place = c.args.place in
    judged_from units place c.requires.start c.unpaired_lanes.ensures (units_loaded units _ (place - 1) c.type_inv.units refl (omega arith)) (units_loaded units _ place c.type_inv.units refl (omega arith))
