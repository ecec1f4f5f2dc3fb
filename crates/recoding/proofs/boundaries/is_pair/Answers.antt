use Rattle.std.proofs.lemmas.Bool.{ltb-false}
use Rattle.utf_base.proofs.UnitLemmas.{no_units_where_fault}
use Rattle.recoding.proofs.UnitEnds.{single_code}
use Rattle.recoding.proofs.boundaries.is_pair.Goals as goal

pub returns-in-Ok-clause-no : goal.returns-in-Ok-clause-no
returns-in-Ok-clause-no c = λ no. single_code c.args.units.now c.in-Ok.field-0-0 c.in-Ok.len c.in-Ok.ensures.decodes (ltb-false _ _ no)

pub returns-in-Err-clause-no : goal.returns-in-Err-clause-no
returns-in-Err-clause-no c = λ no s h. absurd (no_units_where_fault c.args.units.now c.in-Err.field-0 s c.in-Err.ensures.decodes h)
