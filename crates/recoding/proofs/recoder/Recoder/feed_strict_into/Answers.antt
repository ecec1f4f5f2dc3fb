use Rattle.std.proofs.Common.{ap}
use Rattle.recoding.specs.Recoded.{Recoding}
use Rattle.recoding.proofs.StrictFaults.{tells_first}
use Rattle.recoding.proofs.StrictSteps.{FeedsStrictly-run, all_is_read, comes_nearer, room_is_enough, room_is_short}
use Rattle.recoding.proofs.recoder.Recoder.feed_strict_into.Goals as goal

pub returns-clause-feeds : goal.returns-clause-feeds
returns-clause-feeds c =
    let run = rw (c.forms-from.ensures.from, c.forms-from.ensures.to, ap (λ (x : Recoding). x.held) c.self.view_is) at c.recode_to_fault-run.ensures in
    FeedsStrictly-run run.puts run.stops.longer c.end_run-read.ensures

pub returns-clause-read : goal.returns-clause-read
returns-clause-read c = all_is_read c.args.self.now c.args.part.now c.args.room.now c.recode_to_fault-run.new.room c.end_run-read.new.self _ (returns-clause-feeds c)

pub returns-clause-short : goal.returns-clause-short
returns-clause-short c = room_is_short c.args.self.now c.args.part.now c.args.room.now c.recode_to_fault-run.new.room c.end_run-read.new.self _ (returns-clause-feeds c)

pub returns-clause-enough : goal.returns-clause-enough
returns-clause-enough c =
    room_is_enough c.args.self.now c.args.part.now c.args.room.now c.recode_to_fault-run.new.room c.end_run-read.new.self _ (returns-clause-feeds c) c.recode_to_fault-run.auto.room

pub returns-clause-nearer : goal.returns-clause-nearer
returns-clause-nearer c =
    comes_nearer c.args.self.now c.args.part.now c.args.room.now c.recode_to_fault-run.new.room c.end_run-read.new.self _ (returns-clause-feeds c) c.recode_to_fault-run.auto.room

pub returns-clause-first : goal.returns-clause-first
returns-clause-first c = tells_first c.args.self.now c.args.part.now c.args.room.now c.recode_to_fault-run.new.room _ c.end_run-read.new.self (returns-clause-feeds c)
