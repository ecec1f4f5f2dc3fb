use Rattle.std.proofs.lemmas.List.{take_rest}
use Rattle.text_stream.proofs.UnitFaults.{good_unit_codes, good_unit_step, good_unit_all}
use Rattle.text_stream.proofs.runs.unit_bytes.unit_bytes_valid_up_to.Goals as goal

pub loop-len-init : goal.loop-len-init
loop-len-init g c = good_unit_codes g.E.ByteOrder.HIGH_FIRST c.args.bytes.now c.units_len-place.result c.units_len-place.ensures.within c.units_len-place.ensures.codes

pub loop-len-preserved : goal.loop-len-preserved
loop-len-preserved g c =
    good_unit_step g.E.ByteOrder.HIGH_FIRST c.args.bytes.now c.loop-len.place c.in-Some.len c.loop-len.invariant (rw (take_rest c.args.bytes.now c.loop-len.place) at c.in-Some.ensures.some)

pub returns-clause-first : goal.returns-clause-first
returns-clause-first g c =
    good_unit_all g.E.ByteOrder.HIGH_FIRST c.args.bytes.now c.loop-len.place c.loop-len.invariant (rw (take_rest c.args.bytes.now c.loop-len.place) at c.in_default.ensures.none)
