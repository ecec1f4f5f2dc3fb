use Rattle.std.proofs.Common.{◌≡◌, ◌+◌, arith, ap, ◌∙◌}
use mir.Val.{bool_byte}
use Rattle.utf_lanes.specs.UnitStarts.{is_unit_start, unit_start_count}
use Rattle.utf_lanes.proofs.UnitStartLemmas.{places_told, told_few}
use Rattle.utf_lanes.proofs.unit_starts.unit_block_starts.Goals as goal

pub loop-i-preserved : goal.loop-i-preserved
loop-i-preserved c =
    let us = c.args.units.now in
    let p = c.args.place in
    let i = c.loop-i.i in
    let next : p + (i + 1) ≡ p + i + 1 = omega arith in
    let more = places_told (is_unit_start us) (p + i) c.is_start_after.result c.is_start_after.ensures in
    let few = told_few c.is_start_after.result in
    let sum : unit_start_count us p + c.loop-i.starts + bool_byte c.is_start_after.result ≡ unit_start_count us p + (c.loop-i.starts + bool_byte c.is_start_after.result) = omega arith in (
      ap (unit_start_count us) next ∙ more ∙ ap (λ n. n + bool_byte c.is_start_after.result) c.loop-i.invariant.0 ∙ sum,
      omega (arith, few, c.loop-i.invariant.1),
    )
