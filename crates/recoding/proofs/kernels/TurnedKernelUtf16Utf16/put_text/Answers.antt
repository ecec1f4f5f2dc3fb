use Rattle.recoding.proofs.Forms.{is_utf16}
use Rattle.recoding.proofs.TextRuns.{PutsText-none, PutsText-units}
use Rattle.recoding.proofs.kernels.TurnedKernelUtf16Utf16.put_text.Goals as goal

pub returns-then-most-lt16 : goal.returns-then-most-lt16
returns-then-most-lt16 g c = PutsText-none g.met.O.Output.appends_none

pub returns : goal.returns
returns g c = PutsText-units _ _ c.most_copied-most.result (is_utf16 _) (is_utf16 _) c.type_inv.bytes c.copy_units.ensures
