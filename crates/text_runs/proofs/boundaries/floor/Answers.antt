use Rattle.text_runs.proofs.BoundaryLemmas.{last_at, last_before}
use Rattle.text_runs.proofs.boundaries.floor.Goals as goal

pub returns-in-Some : goal.returns-in-Some
returns-in-Some c = last_before c.codes_never_overlap.ensures.utf8 _ _ _ _ c.in-Some.ensures

pub returns-in-None : goal.returns-in-None
returns-in-None c = last_at _ _ c.in-None.ensures
