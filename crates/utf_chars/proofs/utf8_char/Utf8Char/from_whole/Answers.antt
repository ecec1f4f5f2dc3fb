use Rattle.utf_base.proofs.BackLemmas.{no_whole_by_fault, no_whole_by_len}
use Rattle.utf_chars.proofs.utf8_char.Utf8Char.from_whole.Goals as goal
use Rattle.utf_chars.proofs.utf8_char.Utf8Char.from_whole.Goals.{in_default-via-in-Ok+else-len-src, in_default-via-in_default}

pub returns-in_default : goal.returns-in_default
returns-in_default c = elim c.in_default.branch [
  | in_default-via-in-Ok+else-len-src w ↦ no_whole_by_len _ _ _ w.in-Ok.ensures.decodes w.if-len-src.false
  | in_default-via-in_default w ↦ no_whole_by_fault _ _ w.in_default.ensures.decodes
]
