use Rattle.utf_base.specs.Code.{utf8, utf16}
use Rattle.utf_base.proofs.Cuts.{pieces_never_overlap}
use Rattle.utf_base.proofs.Utf8Code.{utf8_is_code}
use Rattle.utf_base.proofs.Utf16Code.{utf16_is_code}
use Rattle.utf_base.proofs.laws.pieces_never_overlap.Goals as goal

pub returns : goal.returns
returns c = record { utf8 = pieces_never_overlap utf8 utf8_is_code; utf16 = pieces_never_overlap utf16 utf16_is_code }
