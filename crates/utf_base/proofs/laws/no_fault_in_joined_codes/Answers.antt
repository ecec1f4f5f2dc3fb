use Rattle.utf_base.specs.Code.{utf8, utf16}
use Rattle.utf_base.proofs.FrontLemmas.{utf8_finds}
use Rattle.utf_base.proofs.JoinedCodes.{no_fault_in_joined_codes}
use Rattle.utf_base.proofs.UnitLemmas.{utf16_finds}
use Rattle.utf_base.proofs.Utf8Code.{utf8_is_code}
use Rattle.utf_base.proofs.Utf16Code.{utf16_is_code}
use Rattle.utf_base.proofs.laws.no_fault_in_joined_codes.Goals as goal

pub returns : goal.returns
returns c = record { utf8 = no_fault_in_joined_codes utf8 utf8_is_code utf8_finds; utf16 = no_fault_in_joined_codes utf16 utf16_is_code utf16_finds }
