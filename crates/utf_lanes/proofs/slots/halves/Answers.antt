use Rattle.utf_lanes.proofs.WideShuffles.{first_half, second_half}
use Rattle.utf_lanes.proofs.slots.halves.Goals as goal

pub returns : goal.returns
returns c = record { first = first_half c.args.lanes c.fits-lanes.0; second = second_half c.args.lanes c.fits-lanes.0 }
