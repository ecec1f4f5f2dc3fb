use Rattle.std.proofs.Common.{lit<}
use Rattle.std.proofs.lemmas.Simd.{shifts_fit_splat}
use Rattle.utf_lanes.proofs.UnitSlots.{third_lanes_are}
use Rattle.utf_lanes.proofs.unit_bytes.third_bytes.Goals as goal

pub overflow_shl-two : goal.overflow_shl-two
overflow_shl-two g c = shifts_fit_splat 8 _ g.row.N 4 (lit< tt)

pub overflow_shl-four : goal.overflow_shl-four
overflow_shl-four g c = shifts_fit_splat 8 _ g.row.N 2 (lit< tt)

pub overflow_shr-four : goal.overflow_shr-four
overflow_shr-four g c = shifts_fit_splat 8 c.args.low g.row.N 6 (lit< tt)

pub returns : goal.returns
returns g c = third_lanes_are c.args.low c.fits-low c.args.high c.fits-high c.args.before c.fits-before
