use Rattle.run_examples.proofs.CursorLemmas.{back_over_char, back_over_fault}
use Rattle.run_examples.proofs.cursor.step_back.Goals as goal

pub returns-in-Ok-clause-between : goal.returns-in-Ok-clause-between
returns-in-Ok-clause-between c = (back_over_char _ _ _ _ c.requires.between c.in-Ok.ensures.decodes).0

pub returns-in-Ok-clause-step : goal.returns-in-Ok-clause-step
returns-in-Ok-clause-step c = (back_over_char _ _ _ _ c.requires.between c.in-Ok.ensures.decodes).1

pub returns-in-Err-clause-between : goal.returns-in-Err-clause-between
returns-in-Err-clause-between c = (back_over_fault _ _ c.requires.between c.requires.more c.in-Err.ensures.decodes.0).0

pub returns-in-Err-clause-step : goal.returns-in-Err-clause-step
returns-in-Err-clause-step c = (back_over_fault _ _ c.requires.between c.requires.more c.in-Err.ensures.decodes.0).1
