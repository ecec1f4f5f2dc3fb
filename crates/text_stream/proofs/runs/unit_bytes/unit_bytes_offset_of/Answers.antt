use Rattle.std.proofs.Common.{arith}
use Rattle.utf_lanes.proofs.UnitBytePairs.{count_in_bytes}
use Rattle.recoding.specs.NextScalars.{utf16_form}
use Rattle.recoding.proofs.Forms.{is_utf16}
use Rattle.text_stream.proofs.FormNumbers.{are_units, none_numbered, odd_numbered, unit_numbered}
use Rattle.text_stream.proofs.runs.unit_bytes.unit_bytes_offset_of.Goals as goal

pub overflow_mul-result : goal.overflow_mul-result
overflow_mul-result g c = omega (arith, c.in-Some.ensures.within, count_in_bytes g.E.ByteOrder.HIGH_FIRST c.args.bytes.now)

pub returns-in-Some : goal.returns-in-Some
returns-in-Some g c =
    let high = g.E.ByteOrder.HIGH_FIRST in
    let xs = c.args.bytes.now in
    unit_numbered high (utf16_form high) (is_utf16 high) xs (omega arith) (are_units high xs c.type_inv.bytes) c.args.number c.in-Some.place c.in-Some.ensures

pub returns-then-bytes-eq0 : goal.returns-then-bytes-eq0
returns-then-bytes-eq0 g c =
    let high = g.E.ByteOrder.HIGH_FIRST in
    let xs = c.args.bytes.now in
    none_numbered high (utf16_form high) (is_utf16 high) xs (omega arith) (are_units high xs c.type_inv.bytes) c.args.number (omega (arith, c.in_default.ensures))

pub returns-then-number-unit_byte_starts_in : goal.returns-then-number-unit_byte_starts_in
returns-then-number-unit_byte_starts_in g c =
    let high = g.E.ByteOrder.HIGH_FIRST in
    let xs = c.args.bytes.now in
    rw (c.if-number-unit_byte_starts_in.true, c.unit_byte_starts_in.ensures) (odd_numbered high (utf16_form high) (is_utf16 high) xs (omega arith) (are_units high xs c.type_inv.bytes) (omega arith))

pub returns : goal.returns
returns g c =
    let high = g.E.ByteOrder.HIGH_FIRST in
    let xs = c.args.bytes.now in
    none_numbered high (utf16_form high) (is_utf16 high) xs (omega arith) (are_units high xs c.type_inv.bytes) c.args.number (omega (arith, c.in_default.ensures, c.unit_byte_starts_in.ensures))
