use Rattle.std.proofs.Common.{refl}
use Rattle.utf_chars.proofs.OwnCodes.{own_array}
use Rattle.utf_chars.proofs.utf8_char.Utf8Char.from_array_unchecked.Goals as goal

pub returns-clause-known : goal.returns-clause-known
returns-clause-known c = (own_array c.args.array _ _ c.requires.scalar c.requires.equal refl).decodes_bytes
