use Rattle.std.proofs.Common.{◌-◌, length}
use Rattle.recoding.specs.NextScalars.{utf16_form}
use Rattle.recoding.specs.Outputs.{Extends}
use Rattle.recoding.specs.Strict.{PutsText}
use Rattle.recoding.specs.declared.form.Form.TheVariants.{Utf8}
use Rattle.recoding.proofs.list.append_blocks.Given as goal

abbrev pub invariant-loop-place : goal.invariant-loop-place
invariant-loop-place g l = PutsText Extends (utf16_form g.E.ByteOrder.HIGH_FIRST) Utf8 l.bytes l.fn.out l.out l.place

abbrev pub decreases-loop-place : goal.decreases-loop-place
decreases-loop-place g l = length l.bytes - l.place
