use Rattle.utf_base.specs.Walk.{utf8_bytes, utf16_units}
use Rattle.utf_base.proofs.Utf8Code.{utf8_is_code}
use Rattle.utf_base.proofs.Utf16Code.{utf16_is_code}
use Rattle.utf_base.proofs.WalkPieces.{walk_gives_each_once}
use Rattle.utf_base.proofs.laws.walk_gives_each_once.Goals as goal

pub returns : goal.returns
returns c = record { utf8 = walk_gives_each_once utf8_bytes utf8_is_code; utf16 = walk_gives_each_once utf16_units utf16_is_code }
