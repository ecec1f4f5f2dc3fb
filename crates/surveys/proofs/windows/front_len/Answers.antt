use Rattle.std.proofs.Common.{sym}
use Rattle.surveys.proofs.FrontLens.{front_len-none}
use Rattle.surveys.proofs.windows.front_len.Goals as goal

pub returns-in-None-clause-len : goal.returns-in-None-clause-len
returns-in-None-clause-len c = sym (front_len-none c.args.bytes.now (c.in-None.ensures.none c.requires))
