use Rattle.recoding.proofs.TextRuns.{PutsText-then}
use Rattle.recoding.proofs.kernels.NarrowedKernelUtf16Utf8.put_text.Goals as goal

pub returns : goal.returns
returns g c = PutsText-then g.met.O.Output.appends_more c.put_blocks-len.ensures c.narrow_ascii.ensures
