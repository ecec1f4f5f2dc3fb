use Rattle.std.specs.Prelude.{true, false}
use Rattle.recoding.specs.TextForms.{utf16_form}
use Rattle.recoding.specs.declared.form.Form.TheVariants.{Utf8}
use Rattle.text_runs.proofs.MarkLemmas.{begins, begins_not, has_no_mark, utf8_mark, utf16le_mark, utf16be_mark}
use Rattle.text_runs.proofs.byte_order_mark.form_of_bom.Goals as goal

pub returns-then-starts_with-clause-some : goal.returns-then-starts_with-clause-some
returns-then-starts_with-clause-some c = begins Utf8 c.args.bytes.now _ utf8_mark _ c.starts_with.ensures.value c.if-starts_with.true

pub returns-then-starts_with-2-clause-some : goal.returns-then-starts_with-2-clause-some
returns-then-starts_with-2-clause-some c = begins _ c.args.bytes.now _ utf16le_mark _ c.starts_with-2.ensures.value c.if-starts_with-2.true

pub returns-then-starts_with-3-clause-some : goal.returns-then-starts_with-3-clause-some
returns-then-starts_with-3-clause-some c = begins _ c.args.bytes.now _ utf16be_mark _ c.starts_with-3.ensures.value c.if-starts_with-3.true

pub returns-clause-none : goal.returns-clause-none
returns-clause-none c =
    let bytes = c.args.bytes.now in
    has_no_mark bytes (begins_not Utf8 bytes _ utf8_mark _ c.starts_with.ensures.value c.if-starts_with.false) (begins_not (utf16_form false) bytes _ utf16le_mark _ c.starts_with-2.ensures.value c.if-starts_with-2.false)
    (begins_not (utf16_form true) bytes _ utf16be_mark _ c.starts_with-3.ensures.value c.if-starts_with-3.false)
