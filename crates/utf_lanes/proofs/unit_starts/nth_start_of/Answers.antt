use Rattle.std.proofs.Common.{◌≡◌, ◌+◌, arith}
use mir.Val.{bool_byte}
use Rattle.utf_lanes.specs.UnitStarts.{is_unit_start, unit_start_count}
use Rattle.utf_lanes.proofs.UnitStartLemmas.{places_few, places_told}
use Rattle.utf_lanes.proofs.unit_starts.nth_start_of.Goals as goal

pub overflow_add-before : goal.overflow_add-before
overflow_add-before g c =
    let us = (g.U.UnitList.list c.args.units) in
    let few = places_few (is_unit_start us) (c.loop-place.place + 1) in
    omega (arith, c.loop-place.invariant.0, places_told (is_unit_start us) c.loop-place.place c.is_start.result c.is_start.ensures)

pub loop-place-preserved : goal.loop-place-preserved
loop-place-preserved g c =
    let us = (g.U.UnitList.list c.args.units) in
    let count : c.loop-place.before + bool_byte c.is_start.result ≡ unit_start_count us (c.loop-place.place + 1)
    = omega (arith, c.loop-place.invariant.0, places_told (is_unit_start us) c.loop-place.place c.is_start.result c.is_start.ensures) in
    (count, omega (arith, c.if-number-before.false))
