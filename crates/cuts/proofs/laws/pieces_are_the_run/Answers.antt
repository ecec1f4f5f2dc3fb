use Rattle.text_runs.proofs.EqualRunLemmas.{run_is_pieces}
use Rattle.text_runs.proofs.ForwardRuns.{pieces_are_the_run}
use Rattle.cuts.proofs.laws.pieces_are_the_run.Goals as goal

pub returns : goal.returns
returns c = λ xs items. (run_is_pieces xs items, λ e. rw e (pieces_are_the_run xs))
