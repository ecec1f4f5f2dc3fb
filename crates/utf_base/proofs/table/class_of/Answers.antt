use Rattle.std.proofs.Common.{ℕ, ◌<◌, arith}
use Rattle.std.proofs.lemmas.Grind.{common_steps}
use Rattle.utf_base.specs.Table.{class}
use Rattle.utf_base.proofs.TableLemmas.{class_at}
use Rattle.utf_base.proofs.table.class_of.Goals as goal

below_12 : (b : ℕ) → class b < 12
unfolding class
below_12 b = grind (arith, common_steps)

pub returns-clause-class : goal.returns-clause-class
returns-clause-class c = class_at c.args.b _ c.ranges.b.fits

pub returns-clause-bound : goal.returns-clause-bound
returns-clause-bound c = rw (class_at c.args.b 0 c.ranges.b.fits) (below_12 c.args.b)
