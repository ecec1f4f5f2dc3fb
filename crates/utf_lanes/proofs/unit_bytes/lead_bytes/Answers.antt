use Rattle.utf_lanes.proofs.UnitSlots.{lead_lanes_are}
use Rattle.utf_lanes.proofs.unit_bytes.lead_bytes.Goals as goal

pub returns : goal.returns
returns g c = lead_lanes_are c.args.low c.fits-low c.args.high c.fits-high
