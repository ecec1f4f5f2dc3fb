use Rattle.std.proofs.Common.{◌+◌, arith}
use Rattle.utf_lanes.specs.UnitStarts.{is_unit_start}
use Rattle.utf_lanes.proofs.UnitStartLemmas.{places_told, places_few}
use Rattle.utf_lanes.proofs.unit_starts.starts_of.Goals as goal

pub loop-place-preserved : goal.loop-place-preserved
loop-place-preserved g c = omega (arith, c.loop-place.invariant, places_told (is_unit_start (g.U.UnitList.list c.args.units)) c.loop-place.place c.is_start.result c.is_start.ensures)

pub overflow_add-starts : goal.overflow_add-starts
overflow_add-starts g c =
    let few = places_few (is_unit_start (g.U.UnitList.list c.args.units)) (c.loop-place.place + 1) in
    omega (arith, loop-place-preserved g c)
