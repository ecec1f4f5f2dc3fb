use Rattle.recoding.proofs.RepairLaws.{repaired_has_no_fault, repaired_is_one, repaired_once_is_enough, repaired_parts_are_one, replacement_is_a_table, text_is_kept}
use Rattle.recoding.proofs.laws.repaired_once.Goals as goal

pub returns : goal.returns
returns c = record { list = repaired_is_one; parts = repaired_parts_are_one; text = text_is_kept; valid = repaired_has_no_fault; twice = repaired_once_is_enough; replacement = replacement_is_a_table }
