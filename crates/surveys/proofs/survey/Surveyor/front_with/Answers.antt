use Rattle.std.proofs.Common.{◌≡◌, ◌++◌, ◌∙◌, ap, take}
use Rattle.surveys.proofs.Fronts.{front_joined}
use Rattle.surveys.proofs.survey.Surveyor.front_with.Goals as goal

pub returns : goal.returns
returns c =
    let s = c.args.self.now in
    let part = c.args.part.now in
    let joined : c.bytes-2.result.now ≡ s.front ++ take c.min.result part = c.bytes-2.ensures ∙ c.joined-front.ensures ∙ ap (λ z. z ++ take c.min.result part) c.bytes.ensures in
    c.first.ensures ∙ ap (take 4) joined ∙ front_joined s.front part c.min.result c.min.ensures
