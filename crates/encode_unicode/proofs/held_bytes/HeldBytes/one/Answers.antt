use Rattle.std.proofs.Common.{refl}
use Rattle.encode_unicode.proofs.HeldWords.{one_byte}
use Rattle.encode_unicode.proofs.held_bytes.HeldBytes.one.Goals as goal

pub returns-clause-held : goal.returns-clause-held
returns-clause-held c = one_byte _ c.args.first c.ranges.first.fits refl
