use Rattle.std.proofs.Common.{lit<}
use Rattle.utf_base.specs.Code.{utf8, utf16}
use Rattle.utf_base.proofs.Cuts.{count_of_cut}
use Rattle.utf_base.proofs.FrontLemmas.{utf8_finds}
use Rattle.utf_base.proofs.UnitLemmas.{utf16_finds}
use Rattle.utf_base.proofs.Utf8Code.{utf8_is_code, length_utf8}
use Rattle.utf_base.proofs.Utf16Code.{utf16_is_code, length_utf16}
use Rattle.utf_base.proofs.laws.pieces_are_bounded.Goals as goal

pub returns : goal.returns
returns c = record {
  utf8 = λ xs ps cut. (count_of_cut utf8 utf8_is_code utf8_finds 4 length_utf8 (lit< tt) xs ps cut).0;
  utf16 = λ xs ps cut. (count_of_cut utf16 utf16_is_code utf16_finds 2 length_utf16 (lit< tt) xs ps cut).0;
  utf8_longest = λ xs ps cut. (count_of_cut utf8 utf8_is_code utf8_finds 4 length_utf8 (lit< tt) xs ps cut).1;
  utf16_longest = λ xs ps cut. (count_of_cut utf16 utf16_is_code utf16_finds 2 length_utf16 (lit< tt) xs ps cut).1;
}
