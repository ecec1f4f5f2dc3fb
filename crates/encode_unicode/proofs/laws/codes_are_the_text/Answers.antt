use Rattle.encode_unicode.proofs.PieceRuns.{codes_of_text}
use Rattle.encode_unicode.proofs.laws.codes_are_the_text.Goals as goal

pub returns : goal.returns
returns c = codes_of_text
