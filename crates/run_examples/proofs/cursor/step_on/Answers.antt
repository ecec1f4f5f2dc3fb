use Rattle.encode_unicode.proofs.ForCallers.{no_code_where_fault}
use Rattle.run_examples.proofs.CursorLemmas.{on_char, on_fault}
use Rattle.run_examples.proofs.cursor.step_on.Goals as goal

pub returns-in-Ok-clause-between : goal.returns-in-Ok-clause-between
returns-in-Ok-clause-between c = (on_char _ _ _ _ c.requires.between c.in-Ok.ensures.decodes).0

pub returns-in-Ok-clause-step : goal.returns-in-Ok-clause-step
returns-in-Ok-clause-step c = (on_char _ _ _ _ c.requires.between c.in-Ok.ensures.decodes).1

pub returns-in-Err-clause-between : goal.returns-in-Err-clause-between
returns-in-Err-clause-between c = (on_fault _ _ c.requires.between c.requires.more (λ s h. no_code_where_fault _ _ s c.in-Err.ensures.decodes h)).0

pub returns-in-Err-clause-step : goal.returns-in-Err-clause-step
returns-in-Err-clause-step c = (on_fault _ _ c.requires.between c.requires.more (λ s h. no_code_where_fault _ _ s c.in-Err.ensures.decodes h)).1
