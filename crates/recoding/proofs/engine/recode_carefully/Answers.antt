use Rattle.recoding.proofs.engine.recode_carefully.Goals as goal

pub returns-in-Faults-clause-reaches : goal.returns-in-Faults-clause-reaches
returns-in-Faults-clause-reaches g c = rw c.in-Faults.is c.recode_faults-in-Faults.ensures.reaches

pub returns-in-Table-clause-reaches : goal.returns-in-Table-clause-reaches
returns-in-Table-clause-reaches g c = rw c.in-Table.is c.recode_faults-in-Table.ensures.reaches

pub returns-in-Subparts-clause-reaches : goal.returns-in-Subparts-clause-reaches
returns-in-Subparts-clause-reaches g c = rw c.in-Subparts.is c.recode_faults-in-Subparts.ensures.reaches
