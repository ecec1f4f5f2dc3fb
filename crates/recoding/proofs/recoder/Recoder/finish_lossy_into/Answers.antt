use Rattle.recoding.proofs.Advancing.{counts_last}
use Rattle.recoding.proofs.Taking.{counted_last, enough_room_at_end, finished_lossily, lossy_done, replaces_last}
use Rattle.recoding.proofs.recoder.Recoder.finish_lossy_into.Goals as goal

pub returns-clause-finishes : goal.returns-clause-finishes
returns-clause-finishes c = finished_lossily c.take_last_into-done.ensures.takes c.count_faults.ensures

pub returns-clause-full : goal.returns-clause-full
returns-clause-full c = rw c.count_faults.ensures c.take_last_into-done.ensures.full

pub returns-clause-enough : goal.returns-clause-enough
returns-clause-enough c = enough_room_at_end c.take_last_into-done.ensures.takes c.take_last_into-done.result.is_full c.take_last_into-done.ensures.full

pub returns-clause-all : goal.returns-clause-all
returns-clause-all c = rw c.count_faults.ensures c.take_last_into-done.ensures.all

pub returns-clause-outcome : goal.returns-clause-outcome
returns-clause-outcome c = (returns-clause-finishes c).adds

pub returns-clause-outcome_done : goal.returns-clause-outcome_done
returns-clause-outcome_done c done = lossy_done _ _ _ (returns-clause-all c done) (returns-clause-outcome c)

pub returns-clause-replaces : goal.returns-clause-replaces
returns-clause-replaces c = replaces_last c.take_last_into-done.ensures.takes c.count_faults.ensures

pub returns-clause-total : goal.returns-clause-total
returns-clause-total c = counted_last c.take_last_into-done.ensures.takes c.count_faults.ensures

pub returns-clause-counted : goal.returns-clause-counted
returns-clause-counted c whole = counts_last c.args.self.now c.count_faults.new.self c.take_last_into-done.result.replaced (returns-clause-replaces c) (returns-clause-total c) (returns-clause-all c whole)
