use Rattle.std.proofs.Common.{◌≡◌, ◌-◌, ◌≤◌, ◌++◌, List, ℕ, None, drop, length}
use Rattle.surveys.specs.SurveyUnits.{units_with}
use Rattle.surveys.proofs.unit_counts.UnitParts.feed_pairs.Given as goal

abbrev pub invariant-loop-place : goal.invariant-loop-place
invariant-loop-place g l = record {
  within : l.place ≤ length l.part;
  odd : l.self.odd ≡ None;
  same : (later : List ℕ) → units_with g.E.ByteOrder.HIGH_FIRST l.self (drop l.place l.part ++ later) ≡ units_with g.E.ByteOrder.HIGH_FIRST l.fn.self (l.part ++ later);
}

abbrev pub decreases-loop-place : goal.decreases-loop-place
decreases-loop-place g l = length l.part - l.place
