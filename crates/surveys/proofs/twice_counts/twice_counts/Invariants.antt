use Rattle.std.proofs.Common.{◌≡◌, ◌+◌, ◌-◌, ◌≤◌, nat_lt, drop, length}
use Rattle.surveys.specs.SurveyCounts.{number, window_sum, wrapped}
use Rattle.surveys.specs.SurveyWindows.{twice_len}
use Rattle.surveys.proofs.twice_counts.twice_counts.Given as goal

abbrev pub invariant-loop-place : goal.invariant-loop-place
invariant-loop-place l = record {
  within : l.place ≤ length l.bytes;
  sequences : wrapped (l.sequences + window_sum (λ w. number (nat_lt 0 (twice_len w))) (drop l.place l.bytes)) ≡ wrapped (window_sum (λ w. number (nat_lt 0 (twice_len w))) l.bytes);
  chars : wrapped (l.chars + window_sum twice_len (drop l.place l.bytes)) ≡ wrapped (window_sum twice_len l.bytes);
}

abbrev pub decreases-loop-place : goal.decreases-loop-place
decreases-loop-place l = length l.bytes - l.place
