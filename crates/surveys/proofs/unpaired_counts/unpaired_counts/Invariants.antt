use Rattle.std.proofs.Common.{◌≡◌, ◌+◌, ◌*◌, ◌≤◌, get_or}
use Rattle.surveys.proofs.UnpairedRows.{sum_to}
use Rattle.surveys.proofs.unpaired_counts.unpaired_counts.Given as goal

abbrev pub invariant-loop-k : goal.invariant-loop-k
invariant-loop-k l = record {
  high_first : l.high_first ≡ sum_to l.k (λ j. get_or l.lanes (2 * j) 0);
  low_first : l.low_first ≡ sum_to l.k (λ j. get_or l.lanes (2 * j + 1) 0);
  few_high : l.high_first ≤ 256 * l.k;
  few_low : l.low_first ≤ 256 * l.k;
}
