use Rattle.utf_lanes.proofs.UnitLanes.{trailing_len, trailing_at}
use Rattle.utf_lanes.proofs.text_units.trailing_halves.Goals as goal

pub returns : goal.returns
returns c = record { wide = trailing_len c.args.first c.fits-first.0; each = trailing_at c.args.first c.fits-first.0 }
