use Rattle.std.proofs.Common.{eqb-true, lit<}
use Rattle.std.proofs.lemmas.Simd.{shifts_fit_splat}
use Rattle.utf_lanes.proofs.UnitSlots.{all_short}
use Rattle.utf_lanes.proofs.unit_bytes.are_short.Goals as goal

pub overflow_shr-upper : goal.overflow_shr-upper
overflow_shr-upper g c = shifts_fit_splat 8 c.args.high g.row.N 3 (lit< tt)

pub returns : goal.returns
returns g c holds = all_short c.requires c.args.high c.fits-high.0 (eqb-true _ _ holds)
