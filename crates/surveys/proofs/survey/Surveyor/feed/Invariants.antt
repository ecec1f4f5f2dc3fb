use Rattle.std.proofs.Common.{◌-◌, ◌≤◌, length, take}
use Rattle.surveys.specs.Surveys.{Surveys}
use Rattle.surveys.proofs.survey.Surveyor.feed.Given as goal

abbrev pub invariant-loop-place : goal.invariant-loop-place
invariant-loop-place l = record { within : l.place ≤ length l.part; surveys : Surveys l.fn.self (take l.place l.part) l.self }

abbrev pub decreases-loop-place : goal.decreases-loop-place
decreases-loop-place l = length l.part - l.place
