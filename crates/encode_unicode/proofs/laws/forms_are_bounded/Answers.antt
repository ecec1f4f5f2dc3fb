use Rattle.encode_unicode.proofs.PieceRuns.{no_longer, three_for_each}
use Rattle.encode_unicode.proofs.laws.forms_are_bounded.Goals as goal

pub returns : goal.returns
returns c = record { units = no_longer; bytes = three_for_each }
