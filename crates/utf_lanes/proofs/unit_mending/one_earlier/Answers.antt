use Rattle.utf_lanes.proofs.WideShuffles.{earlier_at}
use Rattle.utf_lanes.proofs.unit_mending.one_earlier.Goals as goal

pub returns-clause-others : goal.returns-clause-others
returns-clause-others c = earlier_at c.args.lanes c.fits-lanes.0
