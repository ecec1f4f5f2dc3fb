use Rattle.encode_unicode.proofs.PieceCounts.{pieces_within, pieces_short, unit_pieces_within, unit_pieces_short}
use Rattle.encode_unicode.proofs.laws.runs_are_bounded.Goals as goal

pub returns : goal.returns
returns c = record { utf8 = pieces_within; utf16 = unit_pieces_within; utf8_longest = pieces_short; utf16_longest = unit_pieces_short }
