use Rattle.utf_base.specs.Walk.{utf8_bytes, utf16_units}
use Rattle.utf_base.proofs.Utf8Code.{utf8_is_code}
use Rattle.utf_base.proofs.Utf16Code.{utf16_is_code}
use Rattle.utf_base.proofs.Walks.{walk_stays_outside}
use Rattle.utf_base.proofs.laws.walk_stays_outside.Goals as goal

pub returns : goal.returns
returns c = record { utf8 = walk_stays_outside utf8_bytes utf8_is_code; utf16 = walk_stays_outside utf16_units utf16_is_code }
