use Rattle.std.proofs.Common.{refl}
use Rattle.surveys.proofs.Surveying.{begun}
use Rattle.surveys.proofs.survey.Surveyor.new.Goals as goal

pub returns : goal.returns
returns c = λ later. begun _ later refl c.new.ensures refl refl c.new-2.ensures c.new-3.ensures c.new-4.ensures
