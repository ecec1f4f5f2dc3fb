use Rattle.utf_lanes.proofs.MendedUnits.{kept_len, kept_at, last_none}
use Rattle.utf_lanes.proofs.unit_mending.all_but_last.Goals as goal

pub returns-clause-wide : goal.returns-clause-wide
returns-clause-wide c = kept_len c.args.lanes c.fits-lanes

pub returns-clause-others : goal.returns-clause-others
returns-clause-others c = kept_at c.args.lanes c.fits-lanes

pub returns-clause-last : goal.returns-clause-last
returns-clause-last c = last_none c.args.lanes c.fits-lanes
