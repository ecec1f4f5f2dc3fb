use Rattle.std.proofs.Common.{◌≡◌, ◌-◌, length}
use Rattle.text_buffers.specs.Rows.{AreSumsBut}
use Rattle.text_buffers.proofs.buffers.sums.renew_rows.Given as goal

abbrev pub invariant-loop-row : goal.invariant-loop-row
invariant-loop-row g l = AreSumsBut l.chunks l.sums.items l.row l.to × (length l.sums.items ≡ length l.fn.sums.items)

abbrev pub decreases-loop-row : goal.decreases-loop-row
decreases-loop-row g l = l.to - l.row
