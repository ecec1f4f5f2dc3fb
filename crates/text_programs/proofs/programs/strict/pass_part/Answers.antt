use Rattle.std.proofs.Common.{rules}
use Rattle.text_programs.proofs.StrictRelays.{back_within, held_within, StopsText-of}
use Rattle.text_programs.proofs.programs.strict.pass_part.Goals as goal

pub invariant_of-reading : goal.invariant_of-reading
invariant_of-reading g c = record {
  before =
      held_within c.args.reading.now.recoder c.feed_strict_into-progress.new.self c.args.part.now c.args.room.now c.feed_strict_into-progress.new.room c.feed_strict_into-progress.result
      c.feed_strict_into-progress.ensures.feeds c.args.reading.now.count _ c.args.reading.now.before c.saturating_add-reading.ensures;
}

pub fault_at-requires : goal.fault_at-requires
fault_at-requires g c =
    back_within c.args.reading.now.recoder c.feed_strict_into-progress.new.self c.args.part.now c.args.room.now c.feed_strict_into-progress.new.room c.feed_strict_into-progress.result c.in-Faulty.fault
    c.feed_strict_into-progress.ensures.feeds c.in-Faulty.is c.args.reading.now.count c.saturating_add.result c.args.reading.now.before c.saturating_add.ensures

pub returns-in-Faulty-clause-faulty : goal.returns-in-Faulty-clause-faulty
returns-in-Faulty-clause-faulty g c =
    rw c.fault_at.ensures
    (StopsText-of c.args.reading.now.recoder c.feed_strict_into-progress.new.self c.args.part.now c.args.room.now c.feed_strict_into-progress.new.room c.feed_strict_into-progress.result c.in-Faulty.fault
    c.feed_strict_into-progress.ensures.feeds c.in-Faulty.is c.args.reading.now.count c.saturating_add.result _ _ c.args.reading.now.before c.saturating_add.ensures (search rules))
