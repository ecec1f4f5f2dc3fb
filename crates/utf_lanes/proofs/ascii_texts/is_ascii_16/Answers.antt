use Rattle.std.proofs.Common.{eqb-true, eq-eqb}
use Rattle.utf_lanes.proofs.AsciiTexts.{ascii_lanes, lanes_ascii}
use Rattle.utf_lanes.proofs.ascii_texts.is_ascii_16.Goals as goal

pub returns-clause-ascii : goal.returns-clause-ascii
returns-clause-ascii c holds = ascii_lanes c.args.bytes.now c.args.place c.requires (eqb-true _ _ holds)

pub returns-clause-all : goal.returns-clause-all
returns-clause-all c ascii = eq-eqb _ _ (lanes_ascii c.args.bytes.now c.args.place c.requires ascii)
