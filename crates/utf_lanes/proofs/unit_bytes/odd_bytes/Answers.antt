use Rattle.std.proofs.Common.{◌+◌, ◌*◌, ◌++◌, refl}
use Rattle.utf_lanes.specs.Lanes.{half_place}
use Rattle.utf_lanes.proofs.WideShuffles.{picked_at}
use Rattle.utf_lanes.proofs.unit_bytes.odd_bytes.Goals as goal

pub returns : goal.returns
returns c = record { wide = refl; each = picked_at (c.args.front ++ c.args.back) (λ i. half_place (2 * i + 1)) 32 }
