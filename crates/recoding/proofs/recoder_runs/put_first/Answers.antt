use Rattle.std.proofs.Common.{rules}
use Rattle.recoding.proofs.TextRuns.{PutsText-one}
use Rattle.recoding.proofs.recoder_runs.put_first.Goals as goal

pub returns-then-put_fitting-clause-puts : goal.returns-then-put_fitting-clause-puts
returns-then-put_fitting-clause-puts g c = PutsText-one c.in-Char.ensures (c.if-put_fitting.ensures.put (search rules))
