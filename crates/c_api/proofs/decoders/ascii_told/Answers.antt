use Rattle.c_api.proofs.AsciiTold.{told_at}
use Rattle.c_api.proofs.decoders.ascii_told.Goals as goal

pub returns : goal.returns
returns c = told_at c.args.byte _ c.requires
