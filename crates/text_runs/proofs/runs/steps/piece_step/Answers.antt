use Rattle.std.proofs.Common.{Ok, Err, refl}
use Rattle.text_runs.proofs.StepLemmas.{one_piece}
use Rattle.text_runs.proofs.runs.steps.piece_step.Goals as goal

pub returns-in-Ok-clause-step : goal.returns-in-Ok-clause-step
returns-in-Ok-clause-step c = one_piece _ _ (Ok _) c.requires c.in-Ok.ensures.decodes

pub returns-in-Err-clause-step : goal.returns-in-Err-clause-step
returns-in-Err-clause-step c = one_piece _ _ (Err _) c.requires (c.in-Err.ensures.decodes, refl)
