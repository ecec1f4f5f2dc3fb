use Rattle.c_api.proofs.AsciiTold.{mark_at}
use Rattle.c_api.proofs.decoders.character_mark.Goals as goal

pub returns : goal.returns
returns c = mark_at c.args.len _ c.requires
