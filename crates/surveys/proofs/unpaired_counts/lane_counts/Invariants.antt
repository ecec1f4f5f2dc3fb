use Rattle.std.proofs.Common.{◌≡◌, ℕ, ◌<◌, get_or}
use Rattle.surveys.specs.SurveyUnits.{lane_count}
use Rattle.surveys.proofs.unpaired_counts.lane_counts.Given as goal

abbrev pub invariant-loop-row : goal.invariant-loop-row
invariant-loop-row l = (k : ℕ) → k < 32 → get_or l.lanes k 0 ≡ lane_count l.bytes k l.row
