use Rattle.recoding.proofs.Forms.{is_utf16}
use Rattle.recoding.proofs.TextRuns.{PutsText-given, PutsText-part}
use Rattle.recoding.proofs.kernels.put_few.Goals as goal

pub returns : goal.returns
returns g c = PutsText-given _ (is_utf16 _) c.text_len-len.ensures.within c.text_len-len.ensures.text c.put_few_as_utf16.ensures

pub returns-then-bytes-lt19 : goal.returns-then-bytes-lt19
returns-then-bytes-lt19 g c = PutsText-part _ c.put_at_once.ensures
