use Rattle.text_stream.proofs.UnitFaults.{none_begins, two_begin, none_begins_two}
use Rattle.text_stream.proofs.runs.unit_bytes.first_len.Goals as goal

pub returns-in-Err-clause-none : goal.returns-in-Err-clause-none
returns-in-Err-clause-none g c =
    none_begins g.E.ByteOrder.HIGH_FIRST c.args.bytes.now c.in-Err.field-0 c.if-bytes-lt2.false c.if-bytes-lt4.true (rw c.unit-first.ensures at c.in-Err.ensures.decodes)

pub returns-in-Ok-from_utf16_slice_start-clause-some : goal.returns-in-Ok-from_utf16_slice_start-clause-some
returns-in-Ok-from_utf16_slice_start-clause-some g c =
    two_begin g.E.ByteOrder.HIGH_FIRST c.args.bytes.now _ c.in-Ok-from_utf16_slice_start.len c.if-bytes-lt4.false (rw (c.unit-first.ensures, c.unit-second.ensures) at c.in-Ok-from_utf16_slice_start.ensures.decodes)

pub returns-in-Err-from_utf16_slice_start-clause-none : goal.returns-in-Err-from_utf16_slice_start-clause-none
returns-in-Err-from_utf16_slice_start-clause-none g c =
    none_begins_two g.E.ByteOrder.HIGH_FIRST c.args.bytes.now c.in-Err-from_utf16_slice_start.field-0 c.if-bytes-lt4.false
    (rw (c.unit-first.ensures, c.unit-second.ensures) at c.in-Err-from_utf16_slice_start.ensures.decodes)
