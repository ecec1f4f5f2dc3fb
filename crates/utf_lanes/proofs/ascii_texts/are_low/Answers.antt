use Rattle.std.proofs.Common.{eqb-true, eq-eqb, lit<}
use Rattle.utf_lanes.proofs.LaneLemmas.{none_reach, reach_none}
use Rattle.utf_lanes.proofs.ascii_texts.are_low.Goals as goal

pub returns-clause-low : goal.returns-clause-low
returns-clause-low c holds = none_reach 0x80 c.args.lanes (lit< tt) c.fits-lanes.0 (eqb-true _ _ holds)

pub returns-clause-all : goal.returns-clause-all
returns-clause-all c low = eq-eqb _ _ (reach_none 0x80 c.args.lanes (lit< tt) c.fits-lanes.0 low)
