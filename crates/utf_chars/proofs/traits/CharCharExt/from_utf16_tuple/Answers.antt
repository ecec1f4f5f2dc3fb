use Rattle.utf_base.proofs.DecodedLemmas.{answer_of_tuple, gives_char}
use Rattle.utf_chars.proofs.traits.CharCharExt.from_utf16_tuple.Goals as goal

pub returns-clause-known : goal.returns-clause-known
returns-clause-known c = gives_char _ _ (answer_of_tuple _ _ _ c.decode_tuple.ensures)
