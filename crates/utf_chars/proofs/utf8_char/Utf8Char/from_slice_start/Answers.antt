use Rattle.utf_base.proofs.DecodedLemmas.{answer_of_bytes, front_len_utf8}
use Rattle.std.proofs.Common.{Ok, rules}
use Rattle.utf_chars.proofs.OwnCodes.{front_alone}
use Rattle.utf_chars.proofs.utf8_char.Utf8Char.from_slice_start.Goals as goal

pub returns-in_err-len-clause-known : goal.returns-in_err-len-clause-known
returns-in_err-len-clause-known c = answer_of_bytes _ _ (search rules)

pub returns-clause-known : goal.returns-clause-known
returns-clause-known c = answer_of_bytes _ (Ok (_, _)) c.from_front.ensures

pub returns-clause-len : goal.returns-clause-len
returns-clause-len c = front_len_utf8 _ _ _ c.from_front.ensures

pub returns-clause-exact : goal.returns-clause-exact
returns-clause-exact c = front_alone _ _ _ c.from_front.ensures
