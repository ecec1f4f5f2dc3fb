use Rattle.std.proofs.Common.{◌≡◌, ◌*◌, ◌≤◌}
use Rattle.text_runs.specs.InnerBytes.{inner_before}
use Rattle.text_runs.proofs.runs.piece_counts.block_inner.Given as goal

abbrev pub invariant-loop-place : goal.invariant-loop-place
invariant-loop-place g l = (l.inner ≡ inner_before l.bytes l.place) × (l.inner ≤ 3 * l.place)
