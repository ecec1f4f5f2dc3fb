use Rattle.std.proofs.Common.{◌≡◌, ◌+◌, ◌-◌, ◌≤◌, length, drop}
use Rattle.recoding.specs.Faults.{fault_count}
use Rattle.recoding.proofs.recoder.faults_at_end.Given as goal

abbrev pub invariant-loop-place : goal.invariant-loop-place
invariant-loop-place l = record {
  within : l.place ≤ length l.bytes;
  few : l.count ≤ l.place;
  faults : fault_count l.from l.bytes ≡ l.count + fault_count l.from (drop l.place l.bytes);
}

abbrev pub decreases-loop-place : goal.decreases-loop-place
decreases-loop-place l = length l.bytes - l.place
