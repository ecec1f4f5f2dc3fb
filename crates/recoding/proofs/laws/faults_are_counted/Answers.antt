use Rattle.recoding.proofs.FaultCounts.{fault_count_is_one}
use Rattle.recoding.proofs.laws.faults_are_counted.Goals as goal

pub returns : goal.returns
returns c = fault_count_is_one
