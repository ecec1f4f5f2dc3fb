use Rattle.std.proofs.Common.{◌-◌, length, take, drop, arith, refl, length-drop, length-take}
use Rattle.recoding.specs.Replacing.{ReplacesUnits}
use Rattle.recoding.specs.declared.way.Way.TheVariants.{Faults}
use Rattle.utf_lanes.specs.UnitCodes.{lane_unit}
use Rattle.utf_lanes.specs.UnitMending.{is_lone}
use Rattle.recoding.proofs.CopiedUnits.{front_fits, rest_fits}
use Rattle.recoding.proofs.MendedUnitRuns.{Recodes-lanes, counted_most}
use Rattle.recoding.proofs.Recodes.{Recodes-none, Recodes-then}
use Rattle.recoding.proofs.kernels.put_windows.Goals as goal

pub loop-calm-init : goal.loop-calm-init
loop-calm-init g c way shows = Recodes-none g.met.O.Output.appends_none

by_fault : ReplacesUnits Faults
by_fault high bytes = refl

pub overflow_sub-bytes : goal.overflow_sub-bytes
overflow_sub-bytes g c = (c.loop-calm.invariant Faults by_fault).within

pub overflow_add-replaced : goal.overflow_add-replaced
overflow_add-replaced g c =
    let so_far = c.loop-calm.invariant Faults by_fault in
    let within = so_far.within in
    let few = so_far.few in
    let units = c.mended_units-units.ensures in
    let most = units.text.most in
    let count = units.count in
    let halves = c.thirty_two_halves.result in
    let counted = counted_most (is_lone 32 (lane_unit halves.0 halves.1)) 0 c.mended_units-units.result.len in
    record { fits = omega arith }

pub loop-calm-preserved-then-units-eq0 : goal.loop-calm-preserved-then-units-eq0
loop-calm-preserved-then-units-eq0 g c way shows =
    let bytes = c.args.bytes.now in
    let read = c.loop-calm.read in
    let so_far = c.loop-calm.invariant way shows in
    let within = so_far.within in
    let units = c.mended_units-units.ensures in
    Recodes-then g.met.O.Output.appends_more so_far
    (Recodes-lanes way shows g.E.ByteOrder.HIGH_FIRST _ (take (length bytes - read) (drop read bytes)) (front_fits (drop read bytes) (length bytes - read) (rest_fits bytes read c.type_inv.bytes))
    (omega (arith, length-take (length bytes - read) (drop read bytes), length-drop read bytes)) _ _ c.thirty_two_halves.ensures.units units.units units.text.most units.count c.put_mended.ensures)

pub loop-calm-preserved : goal.loop-calm-preserved
loop-calm-preserved g c way shows =
    let bytes = c.args.bytes.now in
    let read = c.loop-calm.read in
    let so_far = c.loop-calm.invariant way shows in
    let within = so_far.within in
    let units = c.mended_units-units.ensures in
    Recodes-then g.met.O.Output.appends_more so_far
    (Recodes-lanes way shows g.E.ByteOrder.HIGH_FIRST _ (take (length bytes - read) (drop read bytes)) (front_fits (drop read bytes) (length bytes - read) (rest_fits bytes read c.type_inv.bytes))
    (omega (arith, length-take (length bytes - read) (drop read bytes), length-drop read bytes)) _ _ c.thirty_two_halves.ensures.units units.units units.text.most units.count c.put_mended.ensures)
