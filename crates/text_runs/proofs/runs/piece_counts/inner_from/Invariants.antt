use Rattle.std.proofs.Common.{◌≡◌, ◌+◌}
use Rattle.text_runs.specs.InnerBytes.{inner_before}
use Rattle.text_runs.proofs.runs.piece_counts.inner_from.Given as goal

abbrev pub invariant-loop-place : goal.invariant-loop-place
invariant-loop-place l = inner_before l.bytes l.start + l.inner ≡ inner_before l.bytes l.place
