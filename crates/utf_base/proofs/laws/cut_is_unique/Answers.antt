use Rattle.utf_base.specs.Code.{utf8, utf16}
use Rattle.utf_base.proofs.Cuts.{cut_is_unique}
use Rattle.utf_base.proofs.Utf8Code.{utf8_is_code}
use Rattle.utf_base.proofs.Utf16Code.{utf16_is_code}
use Rattle.utf_base.proofs.laws.cut_is_unique.Goals as goal

pub returns : goal.returns
returns c = record { utf8 = cut_is_unique utf8 utf8_is_code; utf16 = cut_is_unique utf16 utf16_is_code }
