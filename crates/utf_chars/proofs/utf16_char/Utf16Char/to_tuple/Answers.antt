use Rattle.std.proofs.Common.{Some, None, get_or}
use Rattle.utf_base.proofs.DecodedLemmas.{padded_tuple}
use Rattle.utf_chars.proofs.PaddedUnits.{code_by_second}
use Rattle.utf_chars.proofs.utf16_char.Utf16Char.to_tuple.Goals as goal

pub returns-then-second-eq0-clause-own : goal.returns-then-second-eq0-clause-own
returns-then-second-eq0-clause-own c = padded_tuple (get_or c.self.inside.units 0 0) None _ (rw c.self.view_is at c.self.invariant.scalar) ((code_by_second _ _ c.self.invariant c.self.view_is).0 c.if-second-eq0.true)

pub returns-else-second-eq0-clause-own : goal.returns-else-second-eq0-clause-own
returns-else-second-eq0-clause-own c = padded_tuple (get_or c.self.inside.units 0 0) (Some (get_or c.self.inside.units 1 0)) _ (rw c.self.view_is at c.self.invariant.scalar) ((code_by_second _ _ c.self.invariant c.self.view_is).1 c.if-second-eq0.false)
