use Rattle.std.proofs.Common.{◌≡◌, ◌-◌, ◌≤◌, drop, length}
use Rattle.surveys.specs.SurveyCounts.{counted, nothing}
use Rattle.surveys.proofs.utf8_counts.each_seen.Given as goal

abbrev pub invariant-loop-place : goal.invariant-loop-place
invariant-loop-place l = record { least : l.start ≤ l.place; within : l.place ≤ length l.bytes; same : counted l.counts (drop l.place l.bytes) ≡ counted nothing (drop l.start l.bytes) }

abbrev pub decreases-loop-place : goal.decreases-loop-place
decreases-loop-place l = length l.bytes - l.place
