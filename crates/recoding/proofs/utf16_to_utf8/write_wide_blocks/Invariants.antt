use Rattle.std.proofs.Common.{◌-◌, length}
use Rattle.recoding.specs.NextScalars.{utf16_form}
use Rattle.recoding.specs.Replacing.{FillsPlace, at_place}
use Rattle.recoding.specs.Strict.{PutsText}
use Rattle.recoding.specs.declared.form.Form.TheVariants.{Utf8}
use Rattle.recoding.proofs.utf16_to_utf8.write_wide_blocks.Given as goal

abbrev pub invariant-loop-place : goal.invariant-loop-place
invariant-loop-place g l = PutsText FillsPlace (utf16_form g.E.ByteOrder.HIGH_FIRST) Utf8 l.bytes (at_place l.fn.room l.start) (at_place l.room l.end) l.place

abbrev pub decreases-loop-place : goal.decreases-loop-place
decreases-loop-place g l = length l.bytes - l.place
