use Rattle.utf_chars.proofs.PaddedLemmas.{IsPadded_padded, value_padded, front_padded}
use Rattle.utf_chars.proofs.utf8_char.Utf8Char.from_front.Goals as goal

pub invariant_of-result : goal.invariant_of-result
invariant_of-result c = IsPadded_padded _ _ c.requires.1.0.scalar (front_padded _ _ _ _ c.requires.1 c.front_array-bytes.ensures)

pub returns : goal.returns
returns c = rw (value_padded _ _ c.requires.1.0.scalar (front_padded _ _ _ _ c.requires.1 c.front_array-bytes.ensures)) c.requires.1
