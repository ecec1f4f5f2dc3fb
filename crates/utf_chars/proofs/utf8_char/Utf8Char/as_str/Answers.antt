use Rattle.utf_base.proofs.StdText.{utf8_is_text}
use Rattle.utf_chars.proofs.TextLemmas.{text_of_code}
use Rattle.utf_chars.proofs.utf8_char.Utf8Char.as_str.Goals as goal

-- The code of a scalar is text.
pub from_utf8_unchecked-requires : goal.from_utf8_unchecked-requires
from_utf8_unchecked-requires c = rw (c.as_bytes.ensures.code, ← c.self.view_is) (utf8_is_text _ c.self.invariant.scalar)

pub returns-clause-parses : goal.returns-clause-parses
returns-clause-parses c = rw c.from_utf8_unchecked.ensures (text_of_code _ _ (rw c.self.view_is at c.self.invariant.scalar) c.as_bytes.ensures.code).1
