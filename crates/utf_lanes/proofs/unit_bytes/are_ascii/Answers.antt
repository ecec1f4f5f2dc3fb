use Rattle.std.proofs.Common.{eqb-true, lit<}
use Rattle.std.proofs.lemmas.Simd.{shifts_fit_splat}
use Rattle.utf_lanes.proofs.UnitSlots.{all_ascii}
use Rattle.utf_lanes.proofs.unit_bytes.are_ascii.Goals as goal

pub overflow_shr-result : goal.overflow_shr-result
overflow_shr-result g c = shifts_fit_splat 8 c.args.low g.row.N 7 (lit< tt)

pub returns : goal.returns
returns g c holds = all_ascii c.requires c.args.low c.args.high c.fits-low.0 c.fits-high.0 (eqb-true _ _ holds)
