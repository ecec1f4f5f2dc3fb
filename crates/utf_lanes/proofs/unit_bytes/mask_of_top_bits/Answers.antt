use Rattle.std.proofs.Common.{ℕ, cond, eqb, replicate, ap, ◌∙◌, lit<}
use Rattle.std.proofs.lemmas.Simd.{shifts_fit_splat}
use lib.Lanes.{zip2}
use Rattle.utf_lanes.proofs.UnitLanes.{down}
use Rattle.utf_lanes.proofs.LaneLemmas.{wide_with, lane_with}
use Rattle.utf_lanes.proofs.PassedLanes.{passed_most, passed_bits}
use Rattle.utf_lanes.proofs.unit_bytes.mask_of_top_bits.Goals as goal

pub overflow_shr-result : goal.overflow_shr-result
overflow_shr-result g c = shifts_fit_splat 8 c.args.high g.row.N 2 (lit< tt)

pub returns-clause-most : goal.returns-clause-most
returns-clause-most g c = passed_most c.requires eqb (zip2 down c.args.high (replicate g.row.N 2)) c.args.top (wide_with down c.args.high 2 c.fits-high.0)

pub returns-clause-bits : goal.returns-clause-bits
returns-clause-bits g c k lt =
    passed_bits c.requires eqb (zip2 down c.args.high (replicate g.row.N 2)) c.args.top (wide_with down c.args.high 2 c.fits-high.0) k lt
    ∙ ap (λ x. cond {A = ℕ} (eqb x c.args.top) 1 0) (lane_with down c.args.high 2 c.fits-high.0 k lt)
