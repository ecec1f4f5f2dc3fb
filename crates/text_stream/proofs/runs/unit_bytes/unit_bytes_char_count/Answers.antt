use Rattle.std.proofs.Common.{length, arith}
use Rattle.utf_lanes.specs.BytePairs.{units_of}
use Rattle.utf_lanes.specs.UnitStarts.{is_unit_start}
use Rattle.utf_lanes.proofs.UnitBytePairs.{count_in_bytes}
use Rattle.utf_lanes.proofs.UnitStartLemmas.{places_few}
use Rattle.recoding.specs.NextScalars.{utf16_form}
use Rattle.recoding.proofs.Forms.{is_utf16}
use Rattle.text_stream.proofs.FormNumbers.{are_units, count_by_starts}
use Rattle.text_stream.proofs.runs.unit_bytes.unit_bytes_char_count.Goals as goal

pub overflow_add-result : goal.overflow_add-result
overflow_add-result g c =
    let us = units_of g.E.ByteOrder.HIGH_FIRST c.args.bytes.now in
    omega (arith, c.unit_byte_starts_in.ensures, places_few (is_unit_start us) (length us), count_in_bytes g.E.ByteOrder.HIGH_FIRST c.args.bytes.now)

pub returns : goal.returns
returns g c =
    let high = g.E.ByteOrder.HIGH_FIRST in
    let xs = c.args.bytes.now in
    let all = count_by_starts high (utf16_form high) (is_utf16 high) xs (omega arith) (are_units high xs c.type_inv.bytes) in
    omega (arith, c.unit_byte_starts_in.ensures)
