use Rattle.c_api.specs.Api.{recoder_of}
use Rattle.c_api.proofs.Counted.{FeedsLossy-counted}
use Rattle.c_api.proofs.lossy.nody_recoder_feed_lossy.Goals as goal

pub returns-then-progress-clause-feeds : goal.returns-then-progress-clause-feeds
returns-then-progress-clause-feeds c is =
    let run = c.feed_lossy_into-progress in
    FeedsLossy-counted (recoder_of c.args.recoder.now) run.new.self _ c.args.part.now c.args.room.now run.new.room run.result.read run.result.written (rw c.opened-inner.ensures at run.ensures.feeds) c.keep.ensures.kept

pub returns-else-progress-clause-feeds : goal.returns-else-progress-clause-feeds
returns-else-progress-clause-feeds c is =
    let run = c.feed_lossy_into-progress in
    FeedsLossy-counted (recoder_of c.args.recoder.now) run.new.self _ c.args.part.now c.args.room.now run.new.room run.result.read run.result.written (rw c.opened-inner.ensures at run.ensures.feeds) c.keep.ensures.kept
