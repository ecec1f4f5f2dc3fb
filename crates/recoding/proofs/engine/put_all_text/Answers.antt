use Rattle.recoding.proofs.TextRuns.{PutsText-done, PutsText-none, PutsText-then}
use Rattle.recoding.proofs.engine.put_all_text.Goals as goal

pub loop-read-init : goal.loop-read-init
loop-read-init g c = PutsText-none g.met.O.Output.appends_none

pub loop-read-preserved : goal.loop-read-preserved
loop-read-preserved g c = PutsText-then g.met.O.Output.appends_more c.loop-read.invariant c.put_text-len.ensures

pub returns-then-len-eq0 : goal.returns-then-len-eq0
returns-then-len-eq0 g c = PutsText-done g.met.O.Output.appends_more c.loop-read.invariant c.put_text-len.ensures c.if-len-eq0.true
