use Rattle.recoding.proofs.Advancing.{keeps_count}
use Rattle.recoding.proofs.RecodedLists.{outcome_fed_into}
use Rattle.recoding.proofs.Taking.{comes_nearer, counted, fed_into, moves, replaces_into}
use Rattle.recoding.proofs.recoder.Recoder.feed_into.Goals as goal

-- If nothing is carried over.

pub returns-then-count-eq0-clause-feeds : goal.returns-then-count-eq0-clause-feeds
returns-then-count-eq0-clause-feeds c = fed_into c.take_alone-done.ensures.takes c.count_faults.ensures

pub returns-then-count-eq0-clause-full : goal.returns-then-count-eq0-clause-full
returns-then-count-eq0-clause-full c = rw c.count_faults.ensures c.take_alone-done.ensures.full

pub returns-then-count-eq0-clause-short : goal.returns-then-count-eq0-clause-short
returns-then-count-eq0-clause-short c = c.take_alone-done.ensures.short

pub returns-then-count-eq0-clause-read : goal.returns-then-count-eq0-clause-read
returns-then-count-eq0-clause-read c = c.take_alone-done.ensures.read

pub returns-then-count-eq0-clause-waits : goal.returns-then-count-eq0-clause-waits
returns-then-count-eq0-clause-waits c = rw c.count_faults.ensures c.take_alone-done.ensures.waits

pub returns-then-count-eq0-clause-moves : goal.returns-then-count-eq0-clause-moves
returns-then-count-eq0-clause-moves c = moves c.take_alone-done.ensures.takes c.take_alone-done.result.is_full c.take_alone-done.ensures.short c.take_alone-done.ensures.read

pub returns-then-count-eq0-clause-nearer : goal.returns-then-count-eq0-clause-nearer
returns-then-count-eq0-clause-nearer c = comes_nearer c.take_alone-done.ensures.takes c.count_faults.new.self c.take_alone-done.result.is_full c.count_faults.ensures c.take_alone-done.ensures.short c.take_alone-done.ensures.read

pub returns-then-count-eq0-clause-outcome : goal.returns-then-count-eq0-clause-outcome
returns-then-count-eq0-clause-outcome c = outcome_fed_into (returns-then-count-eq0-clause-feeds c)

pub returns-then-count-eq0-clause-replaces : goal.returns-then-count-eq0-clause-replaces
returns-then-count-eq0-clause-replaces c = replaces_into c.take_alone-done.ensures.takes c.count_faults.ensures

pub returns-then-count-eq0-clause-total : goal.returns-then-count-eq0-clause-total
returns-then-count-eq0-clause-total c = counted c.take_alone-done.ensures.takes c.count_faults.ensures

pub returns-then-count-eq0-clause-counts : goal.returns-then-count-eq0-clause-counts
returns-then-count-eq0-clause-counts c = keeps_count _ _ _ _ (returns-then-count-eq0-clause-replaces c) (returns-then-count-eq0-clause-total c)

-- If bytes are carried over.

pub returns-clause-feeds : goal.returns-clause-feeds
returns-clause-feeds c = fed_into c.take_joined-done.ensures.takes c.count_faults-2.ensures

pub returns-clause-full : goal.returns-clause-full
returns-clause-full c = rw c.count_faults-2.ensures c.take_joined-done.ensures.full

pub returns-clause-short : goal.returns-clause-short
returns-clause-short c = c.take_joined-done.ensures.short

pub returns-clause-read : goal.returns-clause-read
returns-clause-read c = c.take_joined-done.ensures.read

pub returns-clause-waits : goal.returns-clause-waits
returns-clause-waits c = rw c.count_faults-2.ensures c.take_joined-done.ensures.waits

pub returns-clause-moves : goal.returns-clause-moves
returns-clause-moves c = moves c.take_joined-done.ensures.takes c.take_joined-done.result.is_full c.take_joined-done.ensures.short c.take_joined-done.ensures.read

pub returns-clause-nearer : goal.returns-clause-nearer
returns-clause-nearer c = comes_nearer c.take_joined-done.ensures.takes c.count_faults-2.new.self c.take_joined-done.result.is_full c.count_faults-2.ensures c.take_joined-done.ensures.short c.take_joined-done.ensures.read

pub returns-clause-outcome : goal.returns-clause-outcome
returns-clause-outcome c = outcome_fed_into (returns-clause-feeds c)

pub returns-clause-replaces : goal.returns-clause-replaces
returns-clause-replaces c = replaces_into c.take_joined-done.ensures.takes c.count_faults-2.ensures

pub returns-clause-total : goal.returns-clause-total
returns-clause-total c = counted c.take_joined-done.ensures.takes c.count_faults-2.ensures

pub returns-clause-counts : goal.returns-clause-counts
returns-clause-counts c = keeps_count _ _ _ _ (returns-clause-replaces c) (returns-clause-total c)
