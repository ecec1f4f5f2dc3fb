use Rattle.std.proofs.Common.{rules}
use Rattle.recoding.proofs.Recodes.{FillsPlace-of}
use Rattle.recoding.proofs.TextRuns.{PutsText-as}
use Rattle.recoding.proofs.recoder_runs.recode_to_fault.Goals as goal

pub returns-clause-puts : goal.returns-clause-puts
returns-clause-puts c =
    let made = c.new-out.ensures in
    PutsText-as (FillsPlace-of c.new-out.result c.run_strictly-read.new.out _ _ _ made.bytes made.len (search rules)) c.run_strictly-read.ensures.puts
