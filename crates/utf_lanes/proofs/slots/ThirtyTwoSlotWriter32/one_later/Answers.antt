use Rattle.utf_lanes.proofs.WideShuffles.{later_at}
use Rattle.utf_lanes.proofs.slots.ThirtyTwoSlotWriter32.one_later.Goals as goal

pub returns-clause-others : goal.returns-clause-others
returns-clause-others c = later_at 32 c.args.wide c.fits-wide.0
