use Rattle.std.proofs.Common.{◌∷◌}
use Rattle.utf_lanes.proofs.BlockUnits.{front_loaded}
use Rattle.utf_lanes.proofs.text_units.front_units.Goals as goal

pub returns-clause-units : goal.returns-clause-units
returns-clause-units g c =
    let here = c.args.here in
    let lanes = c.before_lanes.ensures in
    c.lane_units.ensures.units (0 ∷ 0 ∷ 0 ∷ here) 3
    (front_loaded c.before_lanes.result.2 c.before_lanes.result.1 c.before_lanes.result.0 here lanes.third_len lanes.second_len lanes.first_len c.fits-here.0 lanes.first lanes.second lanes.third)
