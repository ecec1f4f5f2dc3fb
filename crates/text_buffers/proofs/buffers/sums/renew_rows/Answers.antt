use Rattle.std.proofs.Common.{◌≡◌, ◌+◌, ◌*◌, ◌∙◌, refl, arith}
use Rattle.std.proofs.lemmas.List.{length-set}
use Rattle.text_buffers.proofs.RowLemmas.{held_between, sums_renewed}
use Rattle.text_buffers.proofs.buffers.sums.renew_rows.Goals as goal

pub total-requires : goal.total-requires
total-requires g c = held_between c.args.chunks.now (c.loop-row.row * 256) ((c.loop-row.row + 1) * 256) (omega arith) c.requires.held

pub loop-row-preserved : goal.loop-row-preserved
loop-row-preserved g c =
    let row = c.loop-row.row in
    let first : row * 256 ≡ 256 * row = omega arith in
    let last : (row + 1) * 256 ≡ 256 * row + 256 = omega arith in
    let sum = rw (first, last) at c.total.ensures in
    let (are, many) = c.loop-row.invariant in
    (sums_renewed c.args.chunks.now c.loop-row.sums.items _ row c.args.to c.total.result are (omega (arith, c.if-row-len.true)) sum refl, length-set c.loop-row.sums.items row c.total.result ∙ many)
