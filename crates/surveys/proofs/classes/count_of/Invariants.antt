use Rattle.std.proofs.Common.{◌≡◌, ◌-◌, ◌≤◌, length, take, count_by}
use Rattle.surveys.proofs.classes.count_of.Given as goal

abbrev pub invariant-loop-place : goal.invariant-loop-place
invariant-loop-place g l = (l.place ≤ length l.bytes) × (l.count ≡ count_by g.C.ByteClass.class (take l.place l.bytes))

abbrev pub decreases-loop-place : goal.decreases-loop-place
decreases-loop-place g l = length l.bytes - l.place
