use Rattle.std.proofs.Common.{◌≡◌, ◌≤◌, length}
use Rattle.std.specs.Prelude.{vec_capacity}
use Rattle.text_buffers.specs.Rows.{AreSums}
use Rattle.text_buffers.proofs.buffers.sums.sum_rows.Given as goal

abbrev pub invariant-loop-row : goal.invariant-loop-row
invariant-loop-row g l = AreSums l.chunks l.sums.items × (l.row ≡ length l.sums.items) × (vec_capacity l.fn.sums ≤ vec_capacity l.sums)
