use Rattle.std.proofs.Common.{arith}
use Rattle.c_api.proofs.recodings.nody_recoder_finish.Goals as goal

pub returns-then-recoder-eq0-clause-counts : goal.returns-then-recoder-eq0-clause-counts
returns-then-recoder-eq0-clause-counts c is = (0, omega arith, omega arith)
