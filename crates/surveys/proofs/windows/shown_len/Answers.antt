use Rattle.std.proofs.Common.{sym}
use Rattle.surveys.proofs.FrontLens.{shown_len-none}
use Rattle.surveys.proofs.windows.shown_len.Goals as goal

pub returns-in-None-clause-len : goal.returns-in-None-clause-len
returns-in-None-clause-len c = sym (shown_len-none c.args.bytes.now (c.in-None.ensures.none c.requires))
