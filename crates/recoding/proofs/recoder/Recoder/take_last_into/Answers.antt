use Rattle.std.proofs.Common.{rules}
use Rattle.recoding.proofs.Recodes.{FillsPlace-of}
use Rattle.recoding.proofs.Taking.{TakesLast-as}
use Rattle.recoding.proofs.recoder.Recoder.take_last_into.Goals as goal

pub returns-clause-takes : goal.returns-clause-takes
returns-clause-takes c =
    let made = c.new-out.ensures in
    rw c.progress.ensures (TakesLast-as (FillsPlace-of c.new-out.result c.take_last-done.new.out _ _ _ made.bytes made.len (search rules)) c.take_last-done.ensures.takes)
