use Rattle.c_api.specs.Api.{recoder_of}
use Rattle.c_api.proofs.Counted.{FinishesLossy-counted}
use Rattle.c_api.proofs.lossy.nody_recoder_finish_lossy.Goals as goal

pub returns-then-progress-clause-finishes : goal.returns-then-progress-clause-finishes
returns-then-progress-clause-finishes c is =
    let run = c.finish_lossy_into-progress in
    FinishesLossy-counted (recoder_of c.args.recoder.now) run.new.self _ c.args.room.now run.new.room run.result.written (rw c.opened-inner.ensures at run.ensures.finishes) c.keep.ensures.kept

pub returns-else-progress-clause-finishes : goal.returns-else-progress-clause-finishes
returns-else-progress-clause-finishes c is =
    let run = c.finish_lossy_into-progress in
    FinishesLossy-counted (recoder_of c.args.recoder.now) run.new.self _ c.args.room.now run.new.room run.result.written (rw c.opened-inner.ensures at run.ensures.finishes) c.keep.ensures.kept
