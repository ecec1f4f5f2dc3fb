use Rattle.std.proofs.Common.{◌<◌}
use Rattle.std.proofs.lemmas.List.Elements.{All-from_get_or}
use Rattle.utf_base.specs.Scalar.{IsUnits}
use Rattle.text_runs.proofs.UnitCounts.{units_numbered}
use Rattle.text_runs.proofs.runs.numbers.unit_offset_of.Goals as goal

pub returns : goal.returns
returns c =
    let us = c.args.units.now in
    let units : IsUnits us = All-from_get_or (λ u. u < 0x1_0000) us 0 (λ i lt. (c.type_inv.units i).fits) in
    units_numbered us units c.args.number _ c.nth_unit_start.ensures
