use Rattle.std.proofs.Common.{arith}
use Rattle.text_buffers.proofs.TableRuns.{run_in_order, run_within, IsSplice-found}
use Rattle.text_buffers.proofs.piece_table.find_splice.Goals as goal

pub count_before-keep-requires : goal.count_before-keep-requires
count_before-keep-requires c = run_in_order _ _ c.requires.replaced.run

pub count_before-requires : goal.count_before-requires
count_before-requires c = run_in_order _ _ c.requires.replaced.run

pub end_of-requires-clause-fits : goal.end_of-requires-clause-fits
end_of-requires-clause-fits c k d lt = let w = run_within _ _ c.requires.replaced.run k d lt in omega (arith, c.requires.replaced.small)

pub returns : goal.returns
returns c =
    IsSplice-found c.requires.replaced (rw c.saturating_sub.ensures at c.count_before-keep.ensures) c.count_before.ensures
    c.end_of.ensures
