use Rattle.std.proofs.Common.{rules}
use Rattle.recoding.proofs.Forms.{is_utf16}
use Rattle.recoding.proofs.TextRuns.{PutsText-whole}
use Rattle.recoding.proofs.kernels.put_at_once.Goals as goal

pub returns : goal.returns
returns g c = PutsText-whole _ (is_utf16 _) (c.are_text.ensures.text (search rules)) c.put_one_vector.ensures
