use Rattle.examples.proofs.CaseLemmas.{pieces_alike}
use Rattle.examples.proofs.cases.are_alike.Goals as goal

pub returns-clause-pieces : goal.returns-clause-pieces
returns-clause-pieces c = λ yes. pieces_alike c.ascii_stands_alone.ensures c.codes_never_overlap.ensures.utf8 _ _ (c.eq_ignore_ascii_case.ensures.test.0 yes)
