use Rattle.encode_unicode.proofs.PieceRuns.{pieces_fit, unit_pieces_fit}
use Rattle.encode_unicode.proofs.laws.lengths_are_bounded.Goals as goal

pub returns : goal.returns
returns c = record { utf8 = pieces_fit; utf16 = unit_pieces_fit }
