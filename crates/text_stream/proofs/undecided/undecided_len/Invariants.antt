use Rattle.std.proofs.Common.{◌-◌, ◌≤◌, ℕ, drop, length}
use Rattle.text_stream.specs.UndecidedEnds.{LocatesFront}
use Rattle.text_stream.proofs.undecided.undecided_len.Given as goal

-- a run has reached the offset
abbrev pub invariant-loop-place : goal.invariant-loop-place
invariant-loop-place l = (l.place ≤ length l.bytes) × ((offset : ℕ) → LocatesFront l.form offset l.bytes (drop l.place l.bytes))

abbrev pub decreases-loop-place : goal.decreases-loop-place
decreases-loop-place l = length l.bytes - l.place
