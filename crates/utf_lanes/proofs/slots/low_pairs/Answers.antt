use Rattle.std.proofs.Common.{◌≡◌, ◌+◌, arith}
use Rattle.utf_lanes.proofs.WideShuffles.{front_pairs, back_pairs}
use Rattle.utf_lanes.proofs.slots.low_pairs.Goals as goal

pub returns : goal.returns
returns c = record {
  front = λ k lt. let at : 0 + k ≡ k = omega arith in rw at at (front_pairs c.args.first c.args.second c.fits-first.0 c.fits-second.0 0 (omega arith) k lt);
  back = λ k lt. let at : 0 + k ≡ k = omega arith in rw at at (back_pairs c.args.first c.args.second c.fits-first.0 c.fits-second.0 0 (omega arith) k lt);
}
