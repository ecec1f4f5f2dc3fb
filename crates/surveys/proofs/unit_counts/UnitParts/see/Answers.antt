use Rattle.std.proofs.Common.{◌+◌, ◌∙◌, ap}
use Rattle.surveys.specs.SurveyCounts.{number, wrapped}
use Rattle.surveys.proofs.FedUnits.{units_from-seen}
use Rattle.surveys.proofs.unit_counts.UnitParts.see.Goals as goal

pub returns-clause-counts : goal.returns-clause-counts
returns-clause-counts c =
    λ us. let old = c.args.self.now in
    units_from-seen old.counts _ old.before c.args.unit us (c.sum-self.ensures ∙ ap (λ n. wrapped (old.counts.plain + n)) (c.number.ensures ∙ ap number c.is_plain.ensures))
    (c.sum-self-2.ensures ∙ ap (λ n. wrapped (old.counts.stray + n)) (c.number-2.ensures ∙ ap number c.is_stray.ensures))
    (c.sum-self-3.ensures ∙ ap (λ n. wrapped (old.counts.unpaired + n)) (c.number-3.ensures ∙ ap number c.is_unpaired.ensures))
