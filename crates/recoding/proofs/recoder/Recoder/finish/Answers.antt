use Rattle.std.proofs.Common.{length, ap, arith}
use Rattle.recoding.proofs.Taking.{Finishes-none}
use Rattle.recoding.proofs.RecodedLists.{outcome_none}
use Rattle.recoding.proofs.recoder.Recoder.finish.Goals as goal

pub returns-then-len-eq0-clause-ok : goal.returns-then-len-eq0-clause-ok
returns-then-len-eq0-clause-ok g c = Finishes-none c.args.self c.args.out.now.items (omega (arith, ap (λ r. length r.held) c.self.view_is))

pub returns-then-len-eq0-clause-outcome : goal.returns-then-len-eq0-clause-outcome
returns-then-len-eq0-clause-outcome g c = outcome_none c.args.self c.args.out.now.items (omega (arith, ap (λ r. length r.held) c.self.view_is))
