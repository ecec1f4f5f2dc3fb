use Rattle.std.proofs.Common.{refl}
use Rattle.utf_lanes.proofs.text_units.block_units.Goals as goal

pub returns-clause-units : goal.returns-clause-units
returns-clause-units g c =
    c.lane_units.ensures.units c.args.bytes.now c.args.place
    (record { start = c.requires.start; within = c.requires.within; third = refl; second = refl; first = refl; here = refl })
