use Rattle.text_programs.proofs.HexPairs.{pair_at}
use Rattle.text_programs.proofs.programs.lines.hex_pair.Goals as goal

pub returns : goal.returns
returns c = pair_at c.args.byte c.ranges.byte.fits
