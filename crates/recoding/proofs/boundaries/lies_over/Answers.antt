use Rattle.std.proofs.lemmas.Bool.{ltb-false}
use Rattle.std.proofs.lemmas.List.{take_rest}
use Rattle.utf_base.proofs.FrontLemmas.{no_code_where_fault}
use Rattle.recoding.proofs.LastBoundaries.{stands_in_rest, utf8_not_over}
use Rattle.recoding.proofs.boundaries.lies_over.Goals as goal

pub returns-in-Ok-clause-no : goal.returns-in-Ok-clause-no
returns-in-Ok-clause-no c = λ no. utf8_not_over c.args.bytes.now c.args.place c.args.at _ c.in-Ok.len (rw (take_rest c.args.bytes.now c.args.place) at c.in-Ok.ensures.decodes) (ltb-false _ _ no)

pub returns-in-Err-clause-no : goal.returns-in-Err-clause-no
returns-in-Err-clause-no c = λ no s h.
    absurd (no_code_where_fault _ _ s (rw (take_rest c.args.bytes.now c.args.place) at c.in-Err.ensures.decodes) (stands_in_rest _ c.args.bytes.now c.args.place s h))
