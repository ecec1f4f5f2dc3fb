use Rattle.text_runs.proofs.TextRuns.{no_fault_where_text, text_where_no_fault}
use Rattle.cuts.proofs.laws.text_has_no_fault.Goals as goal

pub returns : goal.returns
returns c = λ xs items run. ((λ zero. text_where_no_fault xs items run zero), (λ text. no_fault_where_text xs items run text))
