use Rattle.std.proofs.Common.{rules}
use Rattle.utf_base.proofs.StdText.{scalar_from_std}
use Rattle.utf_chars.proofs.OwnCodes.{own_units}
use Rattle.utf_chars.proofs.traits.CharCharExt.to_utf16_array.Goals as goal

pub returns-clause-own : goal.returns-clause-own
returns-clause-own c = (own_units _ c.args.self (scalar_from_std _ (search rules)) c.encode.ensures).own

pub returns-clause-decodes : goal.returns-clause-decodes
returns-clause-decodes c = (own_units _ c.args.self (scalar_from_std _ (search rules)) c.encode.ensures).decodes

pub returns-clause-decodes_units : goal.returns-clause-decodes_units
returns-clause-decodes_units c = (own_units _ c.args.self (scalar_from_std _ (search rules)) c.encode.ensures).decodes_units
