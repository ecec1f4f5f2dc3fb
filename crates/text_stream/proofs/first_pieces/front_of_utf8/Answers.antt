use Rattle.text_stream.proofs.FrontTold.{char_begins}
use Rattle.text_stream.proofs.first_pieces.front_of_utf8.Goals as goal

pub returns-in-Some-clause-begins : goal.returns-in-Some-clause-begins
returns-in-Some-clause-begins c = char_begins _ _ _ c.in-Some.ensures.some
