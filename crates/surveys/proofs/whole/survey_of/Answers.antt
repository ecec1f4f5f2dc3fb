use Rattle.std.proofs.Common.{[], ◌∙◌, ap}
use Rattle.std.proofs.lemmas.List.{append-nil}
use Rattle.surveys.specs.Surveys.{surveyed}
use Rattle.surveys.proofs.whole.survey_of.Goals as goal

pub returns : goal.returns
returns c = c.survey.ensures ∙ c.feed.ensures [] ∙ c.new-surveyor.ensures _ ∙ ap surveyed (append-nil c.args.bytes.now)
