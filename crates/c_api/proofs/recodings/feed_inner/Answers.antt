use Rattle.std.proofs.Common.{◌-◌, arith, length, take, sym, subst}
use Rattle.cuts.specs.Rooms.{IsFull}
use Rattle.c_api.proofs.Counted.{part_counted}
use Rattle.c_api.proofs.recodings.feed_inner.Goals as goal

pub returns-then-progress-clause-full : goal.returns-then-progress-clause-full
returns-then-progress-clause-full c one =
    let progress = c.feed_into-progress.result in
    subst (λ r. IsFull r c.args.part.now progress.read (length c.args.room.now - progress.written)) (sym c.keep.ensures.kept)
    (c.feed_into-progress.ensures.full c.if-progress.true)

pub returns-then-progress-clause-counts : goal.returns-then-progress-clause-counts
returns-then-progress-clause-counts c =
    let run = c.feed_into-progress in
    part_counted c.args.recoder.now c.keep.new.recoder c.args.start run.new.self run.result.replaced _ c.requires.start c.keep.ensures.kept
    (omega (arith, c.with_more-recoder.ensures, c.keep.ensures.uncounted)) (take run.result.read c.args.part.now) run.ensures.replaces

pub returns-else-progress-clause-counts : goal.returns-else-progress-clause-counts
returns-else-progress-clause-counts c =
    let run = c.feed_into-progress in
    part_counted c.args.recoder.now c.keep.new.recoder c.args.start run.new.self run.result.replaced _ c.requires.start c.keep.ensures.kept
    (omega (arith, c.with_more-recoder.ensures, c.keep.ensures.uncounted)) (take run.result.read c.args.part.now) run.ensures.replaces
