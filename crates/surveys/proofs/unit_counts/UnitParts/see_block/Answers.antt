use Rattle.surveys.proofs.FedUnits.{units_from-all}
use Rattle.std.proofs.Common.{◌+◌, ◌∙◌, ap}
use Rattle.surveys.specs.SurveyCounts.{wrapped}
use Rattle.surveys.proofs.unit_counts.UnitParts.see_block.Goals as goal

pub returns-clause-counts : goal.returns-clause-counts
returns-clause-counts g c =
    λ us. let old = c.args.self.now in
    units_from-all old.counts _ old.before _ _ _ us (c.sum-self.ensures ∙ ap (λ n. wrapped (old.counts.plain + n)) c.block_counts-block.ensures.plain)
    (c.sum-self-2.ensures ∙ ap (λ n. wrapped (old.counts.stray + n)) c.block_counts-block.ensures.stray) c.sum-self-3.ensures c.block_counts-block.ensures.unpaired
