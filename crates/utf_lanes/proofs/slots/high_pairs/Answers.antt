use Rattle.std.proofs.Common.{arith}
use Rattle.utf_lanes.proofs.WideShuffles.{front_pairs, back_pairs}
use Rattle.utf_lanes.proofs.slots.high_pairs.Goals as goal

pub returns : goal.returns
returns c = record {
  front = front_pairs c.args.first c.args.second c.fits-first.0 c.fits-second.0 8 (omega arith);
  back = back_pairs c.args.first c.args.second c.fits-first.0 c.fits-second.0 8 (omega arith);
}
