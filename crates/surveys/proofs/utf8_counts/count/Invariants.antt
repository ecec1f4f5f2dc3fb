use Rattle.std.proofs.Common.{◌≡◌, ◌-◌, ◌<◌, ◌≤◌, drop, length}
use Rattle.surveys.specs.SurveyCounts.{counted, nothing}
use Rattle.surveys.proofs.Counting.{Fit}
use Rattle.surveys.proofs.utf8_counts.count.Given as goal

abbrev pub invariant-loop-place : goal.invariant-loop-place
invariant-loop-place l = record {
  within : l.place ≤ length l.bytes;
  same : counted l.counts (drop l.place l.bytes) ≡ counted nothing l.bytes;
  fit : Fit l.counts;
  some : 0 < l.reach;
  few : l.reach ≤ 1024;
}

abbrev pub decreases-loop-place : goal.decreases-loop-place
decreases-loop-place l = length l.bytes - l.place
