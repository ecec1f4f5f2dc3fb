use Rattle.utf_base.specs.Code.{utf8, utf16}
use Rattle.utf_base.proofs.SubpartLemmas.{subparts_are_faults, parts_become_the_cut}
use Rattle.utf_base.proofs.Utf8Code.{utf8_is_code}
use Rattle.utf_base.proofs.Utf16Code.{utf16_is_code}
use Rattle.utf_base.proofs.laws.subparts_are_faults.Goals as goal

pub returns : goal.returns
returns c = record {
  utf8 = subparts_are_faults utf8 utf8_is_code;
  utf16 = subparts_are_faults utf16 utf16_is_code;
  utf8_whole = parts_become_the_cut utf8 utf8_is_code;
  utf16_whole = parts_become_the_cut utf16 utf16_is_code;
}
