use Rattle.c_api.specs.Api.{recoder_of}
use Rattle.c_api.specs.Repairs.{table_of}
use Rattle.c_api.proofs.Repaired.{FeedsRepaired-counted}
use Rattle.c_api.proofs.repair.nody_recoder_feed_repair.Goals as goal

pub returns-then-progress-clause-feeds : goal.returns-then-progress-clause-feeds
returns-then-progress-clause-feeds c known is =
    let run = c.feed_repaired_into-progress in
    FeedsRepaired-counted (table_of c.args.repair c.args.table.now) (recoder_of c.args.recoder.now) run.new.self _ c.args.part.now c.args.room.now run.new.room run.result.read run.result.written 0 (rw (c.in-Some.ensures.some, c.opened-inner.ensures) at run.ensures.feeds) c.keep.ensures.kept

pub returns-else-progress-clause-feeds : goal.returns-else-progress-clause-feeds
returns-else-progress-clause-feeds c known is =
    let run = c.feed_repaired_into-progress in
    FeedsRepaired-counted (table_of c.args.repair c.args.table.now) (recoder_of c.args.recoder.now) run.new.self _ c.args.part.now c.args.room.now run.new.room run.result.read run.result.written 0 (rw (c.in-Some.ensures.some, c.opened-inner.ensures) at run.ensures.feeds) c.keep.ensures.kept
