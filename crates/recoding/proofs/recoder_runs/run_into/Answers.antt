use Rattle.std.proofs.Common.{rules}
use Rattle.recoding.proofs.Recodes.{FillsPlace-of, Recodes-as}
use Rattle.recoding.proofs.recoder_runs.run_into.Goals as goal

pub returns-clause-runs : goal.returns-clause-runs
returns-clause-runs g c =
    let made = c.new-out.ensures in
    rw c.progress.ensures (Recodes-as (FillsPlace-of c.new-out.result c.run-done.new.out _ _ _ made.bytes made.len (search rules)) c.run-done.ensures.reaches.runs)
