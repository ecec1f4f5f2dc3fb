use Rattle.std.proofs.Common.{◌+◌, ◌∙◌, ap}
use Rattle.surveys.specs.SurveyCounts.{wrapped}
use Rattle.surveys.proofs.FedRare.{saw}
use Rattle.surveys.proofs.rare_counts.RareCounts.see.Goals as goal

pub returns : goal.returns
returns c =
    let s = c.args.self.now in
    saw s _ c.args.part.now (c.sum-self.ensures ∙ ap (λ n. wrapped (s.nul + n)) c.nul_count.ensures) (c.sum-self-2.ensures ∙ ap (λ n. wrapped (s.control + n)) c.control_count.ensures)
    c.feed.ensures c.feed-2.ensures
