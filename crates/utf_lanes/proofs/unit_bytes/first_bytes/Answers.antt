use Rattle.std.proofs.Common.{lit<}
use Rattle.std.proofs.lemmas.Simd.{shifts_fit_splat}
use Rattle.utf_lanes.proofs.UnitSlots.{firsts_are}
use Rattle.utf_lanes.proofs.unit_bytes.first_bytes.Goals as goal

pub overflow_shr-long : goal.overflow_shr-long
overflow_shr-long g c = shifts_fit_splat 8 c.args.high g.row.N 4 (lit< tt)

pub returns : goal.returns
returns g c = firsts_are c.args.high c.fits-high
