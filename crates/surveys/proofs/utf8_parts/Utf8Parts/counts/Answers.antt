use Rattle.std.proofs.Common.{◌≡◌, ◌++◌, ◌∙◌, ap}
use Rattle.surveys.specs.SurveyCounts.{counted}
use Rattle.surveys.specs.SurveyParts.{zeros_after}
use Rattle.surveys.proofs.FedWindows.{added, ended}
use Rattle.surveys.proofs.utf8_parts.Utf8Parts.counts.Goals as goal

pub returns : goal.returns
returns c =
    let s = c.args.self.now in
    let bytes : c.bytes-2.result.now ≡ s.held ++ zeros_after = c.bytes-2.ensures ∙ c.joined-joined.ensures ∙ ap (λ z. z ++ zeros_after) c.bytes.ensures in
    ended s c.add.new.self (c.add.ensures ∙ added s.counts c.count.result c.bytes-2.result.now c.count.ensures ∙ ap (counted s.counts) bytes)
