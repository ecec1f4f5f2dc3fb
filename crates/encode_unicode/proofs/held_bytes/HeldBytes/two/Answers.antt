use Rattle.std.proofs.Common.{refl}
use Rattle.encode_unicode.proofs.HeldWords.{two_bytes}
use Rattle.encode_unicode.proofs.held_bytes.HeldBytes.two.Goals as goal

pub returns-clause-held : goal.returns-clause-held
returns-clause-held c = two_bytes _ c.args.first c.args.second c.ranges.first.fits c.ranges.second.fits refl
