use Rattle.text_runs.proofs.BoundaryLemmas.{end_of_char, end_of_fault}
use Rattle.text_runs.proofs.boundaries.end_of_code.Goals as goal

pub returns-in-Ok : goal.returns-in-Ok
returns-in-Ok c = end_of_char _ _ _ _ c.requires c.in-Ok.ensures.decodes

pub returns-in-Err : goal.returns-in-Err
returns-in-Err c = end_of_fault _ _ _ c.in-Err.ensures.decodes
