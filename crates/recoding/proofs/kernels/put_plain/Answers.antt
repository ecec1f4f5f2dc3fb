use Rattle.recoding.proofs.Recodes.{Recodes-none, Recodes-then}
use Rattle.recoding.proofs.kernels.put_plain.Goals as goal

pub loop-read-init : goal.loop-read-init
loop-read-init g c = Recodes-none g.met.O.Output.appends_none

pub loop-read-preserved : goal.loop-read-preserved
loop-read-preserved g c = Recodes-then g.met.O.Output.appends_more c.loop-read.invariant c.in-Some.ensures.some
