use Rattle.recoding.proofs.Forms.{is_utf16}
use Rattle.recoding.proofs.TextRuns.{PutsText-given, PutsText-none, PutsText-part}
use Rattle.recoding.proofs.kernels.put_judged.Goals as goal

pub returns-then-len-lt19 : goal.returns-then-len-lt19
returns-then-len-lt19 g c = PutsText-none g.met.O.Output.appends_none

pub returns : goal.returns
returns g c = PutsText-part c.min-most.result (PutsText-given _ (is_utf16 _) c.text_len-len.ensures.within c.text_len-len.ensures.text c.put_units.ensures)
