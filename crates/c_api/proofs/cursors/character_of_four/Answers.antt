use Rattle.c_api.proofs.Fronts.{four_decide}
use Rattle.c_api.proofs.cursors.character_of_four.Goals as goal

pub returns-clause-known : goal.returns-clause-known
returns-clause-known c = four_decide c.args.bytes.now c.front_of_text.result c.requires c.front_of_text.ensures.some
