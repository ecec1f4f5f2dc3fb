use Rattle.cuts.proofs.ValidLengths.{first_fault_found, no_fault_found}
use Rattle.run_examples.proofs.ShownLemmas.{text_before}
use Rattle.run_examples.proofs.faults.first_fault_place.Goals as goal

pub returns-in-Some-clause-first : goal.returns-in-Some-clause-first
returns-in-Some-clause-first c = first_fault_found _ _ c.in-Some.ensures

pub returns-in-Some-clause-text : goal.returns-in-Some-clause-text
returns-in-Some-clause-text c = text_before c.pieces_are_the_run.ensures c.text_has_no_fault.ensures _ _ (returns-in-Some-clause-first c)

pub returns-in-None-clause-first : goal.returns-in-None-clause-first
returns-in-None-clause-first c = no_fault_found _ c.in-None.ensures

pub returns-in-None-clause-text : goal.returns-in-None-clause-text
returns-in-None-clause-text c = text_before c.pieces_are_the_run.ensures c.text_has_no_fault.ensures _ _ (returns-in-None-clause-first c)
