use Rattle.std.specs.Prelude.{string_bytes}
use Rattle.run_examples.proofs.ShownLemmas.{result_recoded}
use Rattle.run_examples.proofs.shown.lossy.Goals as goal

pub returns : goal.returns
returns g c = result_recoded c.pieces_are_the_run.ensures _ _ string_bytes c.shown_pieces.ensures
