use Rattle.std.proofs.Common.{rules}
use Rattle.utf_base.proofs.StdText.{scalar_from_std}
use Rattle.utf_chars.proofs.OwnCodes.{own_array}
use Rattle.utf_chars.proofs.traits.CharCharExt.to_utf8_array.Goals as goal

pub returns-clause-bounds : goal.returns-clause-bounds
returns-clause-bounds c = (own_array _ c.args.self _ (scalar_from_std _ (search rules)) c.encode.ensures.code c.encode.ensures.len).bounds

pub returns-clause-own : goal.returns-clause-own
returns-clause-own c = (own_array _ c.args.self _ (scalar_from_std _ (search rules)) c.encode.ensures.code c.encode.ensures.len).own

pub returns-clause-decodes : goal.returns-clause-decodes
returns-clause-decodes c = (own_array _ c.args.self _ (scalar_from_std _ (search rules)) c.encode.ensures.code c.encode.ensures.len).decodes

pub returns-clause-decodes_bytes : goal.returns-clause-decodes_bytes
returns-clause-decodes_bytes c = (own_array _ c.args.self _ (scalar_from_std _ (search rules)) c.encode.ensures.code c.encode.ensures.len).decodes_bytes
