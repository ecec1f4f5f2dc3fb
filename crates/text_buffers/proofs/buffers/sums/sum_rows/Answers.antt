use Rattle.std.proofs.Common.{◌≡◌, ◌+◌, ◌*◌, [], ◌∷◌, length, length-append, arith}
use Rattle.text_buffers.proofs.RowLemmas.{held_between, sums_more}
use Rattle.text_buffers.proofs.buffers.sums.sum_rows.Goals as goal

pub total-requires : goal.total-requires
total-requires g c = held_between c.args.chunks.now (c.loop-row.row * 256) ((c.loop-row.row + 1) * 256) (omega arith) c.requires.held

pub loop-row-preserved : goal.loop-row-preserved
loop-row-preserved g c =
    let at : c.loop-row.row ≡ length c.loop-row.sums.items = c.loop-row.invariant.1 in
    let first : c.loop-row.row * 256 ≡ 256 * length c.loop-row.sums.items = omega arith in
    let last : (c.loop-row.row + 1) * 256 ≡ 256 * length c.loop-row.sums.items + 256 = omega arith in
    let sum = rw (first, last) at c.total.ensures in
    rw c.in_ok-push.ensures.items (sums_more c.args.chunks.now c.loop-row.sums.items c.total.result c.loop-row.invariant.0 (omega (arith, c.loop-row-test.true)) sum, omega (arith, length-append c.loop-row.sums.items (c.total.result ∷ [])), omega arith)
