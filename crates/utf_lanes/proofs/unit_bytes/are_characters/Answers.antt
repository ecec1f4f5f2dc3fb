use Rattle.std.proofs.Common.{eqb-true, lit<}
use Rattle.std.proofs.lemmas.Simd.{shifts_fit_splat}
use Rattle.utf_lanes.proofs.UnitSlots.{none_equal}
use Rattle.utf_lanes.proofs.unit_bytes.are_characters.Goals as goal

pub overflow_shr-eighths : goal.overflow_shr-eighths
overflow_shr-eighths g c = shifts_fit_splat 8 c.args.high g.row.N 3 (lit< tt)

pub returns : goal.returns
returns g c holds = none_equal c.requires c.args.high c.fits-high.0 (eqb-true _ _ holds)
