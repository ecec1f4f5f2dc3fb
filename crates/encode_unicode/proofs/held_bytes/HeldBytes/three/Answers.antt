use Rattle.std.proofs.Common.{refl}
use Rattle.encode_unicode.proofs.HeldWords.{three_bytes}
use Rattle.encode_unicode.proofs.held_bytes.HeldBytes.three.Goals as goal

pub returns-clause-held : goal.returns-clause-held
returns-clause-held c = three_bytes _ c.args.first c.args.second c.args.third c.ranges.first.fits c.ranges.second.fits c.ranges.third.fits refl
