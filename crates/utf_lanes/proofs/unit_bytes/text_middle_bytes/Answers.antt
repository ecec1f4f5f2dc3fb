use Rattle.std.proofs.Common.{lit<}
use Rattle.std.proofs.lemmas.Simd.{shifts_fit_splat}
use Rattle.utf_lanes.proofs.UnitSlots.{text_middles_are}
use Rattle.utf_lanes.proofs.unit_bytes.text_middle_bytes.Goals as goal

pub overflow_shr-plain : goal.overflow_shr-plain
overflow_shr-plain g c = shifts_fit_splat 8 c.args.high g.row.N 3 (lit< tt)

pub overflow_shr-result : goal.overflow_shr-result
overflow_shr-result g c = shifts_fit_splat 8 c.args.high g.row.N 2 (lit< tt)

pub returns : goal.returns
returns g c = text_middles_are c.args.high c.fits-high c.args.low c.fits-low c.args.before c.middle_bytes.ensures c.lead_bytes.ensures c.third_bytes.ensures
