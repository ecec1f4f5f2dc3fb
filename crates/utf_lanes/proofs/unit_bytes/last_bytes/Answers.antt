use Rattle.utf_lanes.proofs.UnitSlots.{lasts_are}
use Rattle.utf_lanes.proofs.unit_bytes.last_bytes.Goals as goal

pub returns : goal.returns
returns g c = lasts_are c.args.low c.args.high c.fits-low c.fits-high c.middle_bytes.ensures
