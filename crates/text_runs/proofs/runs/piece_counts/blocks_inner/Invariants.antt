use Rattle.std.proofs.Common.{◌≡◌, ◌+◌, ◌-◌, ◌≤◌, length}
use Rattle.text_runs.specs.InnerBytes.{inner_before}
use Rattle.text_runs.proofs.runs.piece_counts.blocks_inner.Given as goal

abbrev pub invariant-loop-place : goal.invariant-loop-place
invariant-loop-place g l = (l.place ≤ length l.bytes) × (inner_before l.bytes l.start + l.inner ≡ inner_before l.bytes l.place)

abbrev pub decreases-loop-place : goal.decreases-loop-place
decreases-loop-place g l = length l.bytes - l.place
