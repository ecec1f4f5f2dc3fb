use Rattle.text_runs.proofs.BoundaryLemmas.{first_after, first_at}
use Rattle.text_runs.proofs.boundaries.ceil.Goals as goal

pub returns-in-Some : goal.returns-in-Some
returns-in-Some c = first_after _ _ _ _ c.in-Some.ensures

pub returns-in-None : goal.returns-in-None
returns-in-None c = first_at _ _ c.in-None.ensures
