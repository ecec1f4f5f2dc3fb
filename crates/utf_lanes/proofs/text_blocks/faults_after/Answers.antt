use Rattle.utf_lanes.proofs.LaneLemmas.{faults_len, faultless_follows}
use Rattle.utf_lanes.proofs.text_blocks.faults_after.Goals as goal

pub returns-clause-len : goal.returns-clause-len
returns-clause-len g c = faults_len c.args.third c.args.second c.fits-third c.fits-second c.pairs-left.result c.pairs-left.ensures.len

pub returns-clause-lanes : goal.returns-clause-lanes
returns-clause-lanes g c = faultless_follows c.args.third c.args.second c.fits-third c.fits-second c.pairs-left.result c.pairs-left.ensures.len c.args.first c.args.here c.pairs-left.ensures.lanes
