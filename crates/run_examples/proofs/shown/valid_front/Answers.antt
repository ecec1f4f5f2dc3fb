use Rattle.run_examples.proofs.ShownLemmas.{text_before}
use Rattle.run_examples.proofs.shown.valid_front.Goals as goal

pub returns-in-Ok : goal.returns-in-Ok
returns-in-Ok c = (c.valid_up_to.result, c.valid_up_to.ensures.first, c.in-Ok.ensures.cases.0)

pub returns-in-Err : goal.returns-in-Err
returns-in-Err c = absurd (c.in-Err.ensures.cases.0 (text_before c.pieces_are_the_run.ensures c.text_has_no_fault.ensures _ _ c.valid_up_to.ensures.first))
