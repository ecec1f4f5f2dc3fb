use Rattle.std.proofs.Common.{lit<, eqb-true, eq-eqb}
use Rattle.utf_lanes.proofs.LaneLemmas.{loads_low, low_loads}
use Rattle.utf_lanes.proofs.ascii_texts.is_ascii_block.Goals as goal

pub returns-clause-ascii : goal.returns-clause-ascii
returns-clause-ascii c holds = loads_low 32 c.args.bytes.now c.args.place (lit< tt) c.requires (eqb-true _ _ holds)

pub returns-clause-all : goal.returns-clause-all
returns-clause-all c low = eq-eqb _ _ (low_loads 32 c.args.bytes.now c.args.place (lit< tt) c.requires low)
