use Rattle.std.proofs.Common.{arith}
use Rattle.examples.proofs.TableLemmas.{one_fits, one_counted}
use Rattle.examples.proofs.tables.count_characters.Goals as goal

pub count_one-requires : goal.count_one-requires
count_one-requires c = one_fits _ _ _ c.loop-c.invariant c.in-Some.ensures.steps (omega arith)

pub loop-c-preserved : goal.loop-c-preserved
loop-c-preserved c = one_counted c.loop-c.invariant c.in-Some.ensures.steps c.in_ok-count_one.ensures
