use Rattle.std.proofs.Common.{◌-◌, ◌≤◌, length, take}
use Rattle.surveys.specs.SurveyRare.{FeedsRare}
use Rattle.surveys.proofs.rare_counts.RareCounts.feed.Given as goal

abbrev pub invariant-loop-place : goal.invariant-loop-place
invariant-loop-place l = record { within : l.place ≤ length l.part; feeds : FeedsRare l.fn.self (take l.place l.part) l.self }

abbrev pub decreases-loop-place : goal.decreases-loop-place
decreases-loop-place l = length l.part - l.place
