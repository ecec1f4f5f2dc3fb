use Rattle.std.proofs.Common.{◌∙◌, ◌<◌, sym}
use Rattle.std.proofs.lemmas.List.Elements.{All-from_get_or}
use Rattle.utf_base.specs.Scalar.{IsUnits}
use Rattle.text_runs.proofs.UnitCounts.{units_counted}
use Rattle.text_runs.proofs.runs.counts.unit_char_count.Goals as goal

pub returns : goal.returns
returns c =
    let us = c.args.units.now in
    let units : IsUnits us = All-from_get_or (λ u. u < 0x1_0000) us 0 (λ i lt. (c.type_inv.units i).fits) in
    c.unit_starts_in.ensures ∙ sym (units_counted us units)
