use Rattle.std.proofs.Common.{◌≡◌, length, drop, min, arith, ap, refl, sym, ◌∙◌, length-drop}
use Rattle.std.proofs.lemmas.List.{take_rest}
use Rattle.utf_base.specs.Code.{utf8}
use Rattle.text_buffers.specs.declared.buffers.counts.Counts.{Counts}
use Rattle.text_runs.specs.PieceBoundaries.{IsFirstBetween}
use Rattle.text_runs.specs.WellFormed.{IsFirstFault}
use Rattle.text_buffers.proofs.NextFaultLemmas.{none_counted, none_from_boundary, next_from_boundary}
use Rattle.text_buffers.proofs.buffers.next_faults.chunk_fault_from.Goals as goal

pub returns-then-counts-eq0 : goal.returns-then-counts-eq0
returns-then-counts-eq0 g c = none_counted c.args.chunk.now c.args.at (sym (ap (λ (k : Counts). k.faults) c.counts.ensures) ∙ c.if-counts-eq0.true)

pub returns-then-place-bytes : goal.returns-then-place-bytes
returns-then-place-bytes g c =
    let x = c.args.chunk.now in
    let len : length c.bytes-bytes.result.now ≡ length x = rw c.bytes-bytes.ensures refl in
    let first : IsFirstBetween x (min (length x) c.args.at) c.ceil-from.result = rw (c.min.ensures, c.bytes-bytes.ensures) at c.ceil-from.ensures in
    let told : IsFirstFault utf8 (drop c.ceil-from.result x) c.valid_up_to.result = rw (c.bytes-bytes.ensures, take_rest x c.ceil-from.result) at c.valid_up_to.ensures.first in
    none_from_boundary x c.args.at c.ceil-from.result first c.valid_up_to.result told (omega arith)

pub returns : goal.returns
returns g c =
    let x = c.args.chunk.now in
    let len : length c.bytes-bytes.result.now ≡ length x = rw c.bytes-bytes.ensures refl in
    let first : IsFirstBetween x (min (length x) c.args.at) c.ceil-from.result = rw (c.min.ensures, c.bytes-bytes.ensures) at c.ceil-from.ensures in
    let told : IsFirstFault utf8 (drop c.ceil-from.result x) c.valid_up_to.result = rw (c.bytes-bytes.ensures, take_rest x c.ceil-from.result) at c.valid_up_to.ensures.first in
    let within = told.within in
    let from = first.between.within in
    next_from_boundary x c.args.at c.ceil-from.result first c.valid_up_to.result told (omega (arith, length-drop c.ceil-from.result x))
