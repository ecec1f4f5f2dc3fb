use Rattle.std.proofs.Common.{refl, lit<, rules}
use Rattle.std.proofs.lemmas.Simd.{shifts_fit_splat}
use Rattle.utf_lanes.specs.declared.text_blocks.TheConstants.{BEFORE_HIGH, BEFORE_LOW, HERE_HIGH}
use Rattle.utf_lanes.proofs.LaneLemmas.{upper_below, lower_below, pairs_len, pair_lanes}
use Rattle.utf_lanes.proofs.text_blocks.pairs.Goals as goal

pub overflow_shr-before : goal.overflow_shr-before
overflow_shr-before g c = shifts_fit_splat 8 c.args.before g.row.N 4 (lit< tt)

pub overflow_shr-here : goal.overflow_shr-here
overflow_shr-here g c = shifts_fit_splat 8 c.args.here g.row.N 4 (lit< tt)

pub look_up-high-requires : goal.look_up-high-requires
look_up-high-requires g c = (search rules, λ k lt. upper_below c.args.before c.fits-before k lt)

pub look_up-low-requires : goal.look_up-low-requires
look_up-low-requires g c = (search rules, λ k lt. lower_below c.args.before c.fits-before k lt)

pub look_up-requires : goal.look_up-requires
look_up-requires g c = (search rules, λ k lt. upper_below c.args.here c.fits-here k lt)

pub returns-clause-len : goal.returns-clause-len
returns-clause-len g c = pairs_len BEFORE_HIGH BEFORE_LOW HERE_HIGH c.args.before c.args.here c.fits-before c.fits-here c.look_up-high.ensures c.look_up-low.ensures c.look_up.ensures

pub returns-clause-lanes : goal.returns-clause-lanes
returns-clause-lanes g c = pair_lanes BEFORE_HIGH BEFORE_LOW HERE_HIGH c.args.before c.args.here c.fits-before c.fits-here c.look_up-high.ensures c.look_up-low.ensures c.look_up.ensures refl
