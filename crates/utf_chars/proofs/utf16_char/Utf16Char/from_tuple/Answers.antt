use Rattle.std.proofs.Common.{Ok, rules}
use Rattle.utf_base.proofs.DecodedLemmas.{answer_of_tuple, units_of_tuple}
use Rattle.utf_chars.proofs.utf16_char.Utf16Char.from_tuple.Goals as goal

pub returns-in_err-decode_tuple-clause-known : goal.returns-in_err-decode_tuple-clause-known
returns-in_err-decode_tuple-clause-known c = answer_of_tuple _ _ _ (search rules)

pub returns-clause-known : goal.returns-clause-known
returns-clause-known c = answer_of_tuple _ _ (Ok _) (rw c.new.ensures c.in_ok-decode_tuple.ensures)

pub returns-clause-units : goal.returns-clause-units
returns-clause-units c = units_of_tuple _ _ (Ok _) c.in_ok-decode_tuple.ensures
