use Rattle.std.proofs.Common.{rules}
use Rattle.run_examples.proofs.strict.valid_len.Goals as goal

pub returns-in-Faulty-outcome : goal.returns-in-Faulty-outcome
returns-in-Faulty-outcome c =
    (c.finish_strict_into.ensures.first.place _ c.in-Faulty-outcome.fault (c.feed_strict_into-progress.ensures.first.text (search rules) c.in-AllRead.is) c.in-Faulty-outcome.is).1.0 (search rules)

pub returns-in-AllRead-outcome : goal.returns-in-AllRead-outcome
returns-in-AllRead-outcome c =
    (c.finish_strict_into.ensures.first.none _ (c.feed_strict_into-progress.ensures.first.text (search rules) c.in-AllRead.is) c.in-AllRead-outcome.is).0 (search rules)
