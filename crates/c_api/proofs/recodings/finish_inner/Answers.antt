use Rattle.std.proofs.Common.{arith, subst}
use Rattle.cuts.specs.Rooms.{FinishesInto}
use Rattle.c_api.proofs.Counted.{FinishesInto-counted, end_counted}
use Rattle.c_api.specs.Api.{recoder_of}
use Rattle.c_api.proofs.recodings.finish_inner.Goals as goal

pub returns-then-progress-clause-finishes : goal.returns-then-progress-clause-finishes
returns-then-progress-clause-finishes c =
    let run = c.finish_into-progress in
    FinishesInto-counted (recoder_of c.args.recoder.now) run.new.self _ c.args.room.now run.new.room run.result.written
    (subst (λ r. FinishesInto r c.args.room.now run.new.room run.result.written run.new.self) c.requires.start run.ensures.finishes) c.keep.ensures.kept

pub returns-else-progress-clause-finishes : goal.returns-else-progress-clause-finishes
returns-else-progress-clause-finishes c =
    let run = c.finish_into-progress in
    FinishesInto-counted (recoder_of c.args.recoder.now) run.new.self _ c.args.room.now run.new.room run.result.written
    (subst (λ r. FinishesInto r c.args.room.now run.new.room run.result.written run.new.self) c.requires.start run.ensures.finishes) c.keep.ensures.kept

pub returns-then-progress-clause-counts : goal.returns-then-progress-clause-counts
returns-then-progress-clause-counts c =
    let run = c.finish_into-progress in
    end_counted c.args.recoder.now c.keep.new.recoder c.args.start run.new.self run.result.replaced _ c.requires.start c.keep.ensures.kept
    (omega (arith, c.with_more-recoder.ensures, c.keep.ensures.uncounted)) run.ensures.replaces

pub returns-else-progress-clause-counts : goal.returns-else-progress-clause-counts
returns-else-progress-clause-counts c =
    let run = c.finish_into-progress in
    end_counted c.args.recoder.now c.keep.new.recoder c.args.start run.new.self run.result.replaced _ c.requires.start c.keep.ensures.kept
    (omega (arith, c.with_more-recoder.ensures, c.keep.ensures.uncounted)) run.ensures.replaces
