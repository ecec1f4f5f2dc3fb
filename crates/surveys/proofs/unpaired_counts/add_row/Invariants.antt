use Rattle.std.proofs.Common.{◌≡◌, ℕ, ◌+◌, ◌<◌, ◌≤◌, get_or}
use Rattle.surveys.specs.SurveyCounts.{number}
use Rattle.surveys.specs.SurveyUnits.{are_highs_unpaired}
use Rattle.surveys.proofs.unpaired_counts.add_row.Given as goal

abbrev pub invariant-loop-k : goal.invariant-loop-k
invariant-loop-k l = record {
  counted : (j : ℕ) → j < l.k → get_or l.lanes j 0 ≡ get_or l.fn.lanes j 0 + number (are_highs_unpaired (get_or l.row j 0) (get_or l.row (j + 2) 0));
  left : (j : ℕ) → l.k ≤ j → j < 32 → get_or l.lanes j 0 ≡ get_or l.fn.lanes j 0;
}
