use Rattle.std.proofs.Common.{lit<}
use Rattle.std.proofs.lemmas.Simd.{shifts_fit_splat}
use Rattle.utf_lanes.proofs.UnitSlots.{second_lanes_are}
use Rattle.utf_lanes.proofs.unit_bytes.second_bytes.Goals as goal

pub overflow_shr-six : goal.overflow_shr-six
overflow_shr-six g c = shifts_fit_splat 8 c.args.low g.row.N 2 (lit< tt)

pub returns : goal.returns
returns g c = second_lanes_are c.args.low c.fits-low
