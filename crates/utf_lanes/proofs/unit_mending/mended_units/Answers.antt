use Rattle.utf_lanes.proofs.MendedUnits.{mends}
use Rattle.utf_lanes.proofs.unit_mending.mended_units.Goals as goal

pub returns : goal.returns
returns c =
    let len = c.text_lanes.ensures in
    mends c.args.low c.args.high c.lone_lanes.result c.fits-low c.fits-high c.lone_lanes.ensures c.text_lanes.result len.least len.most len.last len.all
