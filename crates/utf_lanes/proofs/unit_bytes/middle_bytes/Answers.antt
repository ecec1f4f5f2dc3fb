use Rattle.std.proofs.Common.{lit<}
use Rattle.std.proofs.lemmas.Simd.{shifts_fit_splat}
use Rattle.utf_lanes.proofs.UnitSlots.{middles_are}
use Rattle.utf_lanes.proofs.unit_bytes.middle_bytes.Goals as goal

pub overflow_shl-bits : goal.overflow_shl-bits
overflow_shl-bits g c = shifts_fit_splat 8 _ g.row.N 2 (lit< tt)

pub overflow_shr-bits : goal.overflow_shr-bits
overflow_shr-bits g c = shifts_fit_splat 8 c.args.low g.row.N 6 (lit< tt)

pub returns : goal.returns
returns g c = middles_are c.args.low c.args.high c.fits-low c.fits-high
