use Rattle.utf_chars.proofs.OwnCodes.{own_array}
use Rattle.utf_chars.proofs.utf8_char.Utf8Char.to_array.Goals as goal

pub returns-clause-decodes : goal.returns-clause-decodes
returns-clause-decodes c = (own_array _ c.args.self _ (rw c.self.view_is at c.self.invariant.scalar) (rw c.self.view_is at c.self.invariant.equal) c.len.ensures.len).decodes

pub returns-clause-decodes_bytes : goal.returns-clause-decodes_bytes
returns-clause-decodes_bytes c = (own_array _ c.args.self _ (rw c.self.view_is at c.self.invariant.scalar) (rw c.self.view_is at c.self.invariant.equal) c.len.ensures.len).decodes_bytes
