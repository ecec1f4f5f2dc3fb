use Rattle.std.proofs.Common.{◌-◌, length}
use Rattle.recoding.specs.NextScalars.{utf16_form}
use Rattle.recoding.specs.Replacing.{Recodes}
use Rattle.recoding.specs.declared.form.Form.TheVariants as form
use Rattle.recoding.proofs.kernels.put_plain.Given as goal

abbrev pub invariant-loop-read : goal.invariant-loop-read
invariant-loop-read g l = Recodes g.O.Output.appends (g.F.Windowed.way l.by) form.Utf8 (utf16_form g.E.ByteOrder.HIGH_FIRST) l.bytes l.fn.out l.out l.read l.replaced

abbrev pub decreases-loop-read : goal.decreases-loop-read
decreases-loop-read g l = length l.bytes - l.read
