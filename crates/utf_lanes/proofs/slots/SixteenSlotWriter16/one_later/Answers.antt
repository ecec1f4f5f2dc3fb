use Rattle.utf_lanes.proofs.WideShuffles.{later_at}
use Rattle.utf_lanes.proofs.slots.SixteenSlotWriter16.one_later.Goals as goal

pub returns-clause-others : goal.returns-clause-others
returns-clause-others c = later_at 16 c.args.lanes c.fits-lanes.0
