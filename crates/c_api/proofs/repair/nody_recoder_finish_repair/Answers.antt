use Rattle.c_api.specs.Api.{recoder_of}
use Rattle.c_api.specs.Repairs.{table_of}
use Rattle.c_api.proofs.Repaired.{FinishesRepaired-counted}
use Rattle.c_api.proofs.repair.nody_recoder_finish_repair.Goals as goal

pub returns-then-progress-clause-finishes : goal.returns-then-progress-clause-finishes
returns-then-progress-clause-finishes c known is =
    let run = c.finish_repaired_into-progress in
    FinishesRepaired-counted (table_of c.args.repair c.args.table.now) (recoder_of c.args.recoder.now) run.new.self _ c.args.room.now run.new.room run.result.written 0 (rw (c.in-Some.ensures.some, c.opened-inner.ensures) at run.ensures.finishes) c.keep.ensures.kept

pub returns-else-progress-clause-finishes : goal.returns-else-progress-clause-finishes
returns-else-progress-clause-finishes c known is =
    let run = c.finish_repaired_into-progress in
    FinishesRepaired-counted (table_of c.args.repair c.args.table.now) (recoder_of c.args.recoder.now) run.new.self _ c.args.room.now run.new.room run.result.written 0 (rw (c.in-Some.ensures.some, c.opened-inner.ensures) at run.ensures.finishes) c.keep.ensures.kept
