use Rattle.run_examples.proofs.CursorLemmas.{same_begin}
use Rattle.run_examples.proofs.cursor.on_and_back.Goals as goal

pub returns : goal.returns
returns c = same_begin c.one_piece_ends.ensures.utf8 _ _ _ _ c.step_back.ensures.step c.step_on.ensures.step
