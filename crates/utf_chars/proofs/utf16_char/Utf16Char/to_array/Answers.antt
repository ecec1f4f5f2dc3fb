use Rattle.utf_chars.proofs.OwnCodes.{own_units}
use Rattle.utf_chars.proofs.utf16_char.Utf16Char.to_array.Goals as goal

pub returns-clause-own : goal.returns-clause-own
returns-clause-own c = (own_units _ c.args.self (rw c.self.view_is at c.self.invariant.scalar) (rw c.self.view_is at c.self.invariant.equal)).own

pub returns-clause-decodes : goal.returns-clause-decodes
returns-clause-decodes c = (own_units _ c.args.self (rw c.self.view_is at c.self.invariant.scalar) (rw c.self.view_is at c.self.invariant.equal)).decodes

pub returns-clause-decodes_units : goal.returns-clause-decodes_units
returns-clause-decodes_units c = (own_units _ c.args.self (rw c.self.view_is at c.self.invariant.scalar) (rw c.self.view_is at c.self.invariant.equal)).decodes_units
