use Rattle.std.proofs.Common.{◌≡◌, ◌+◌, ◌-◌, arith}
use Rattle.text_runs.specs.InnerBytes.{inner_before}
use Rattle.text_runs.proofs.InnerLemmas.{inner_of_part, inner_within}
use Rattle.text_runs.proofs.runs.piece_counts.blocks_inner.Goals as goal

pub loop-place-preserved : goal.loop-place-preserved
loop-place-preserved g c =
    let xs = c.args.bytes.now in
    let n = g.row.PLACES in
    let place = c.loop-place.place in
    let width : place + (n + 3) - place ≡ n + 3 = omega arith in
    (omega arith, omega (arith, c.loop-place.invariant.1, rw width at c.block_inner.ensures, inner_of_part xs place (n + 3) n (omega arith)))

pub overflow_add-inner : goal.overflow_add-inner
overflow_add-inner g c =
    let xs = c.args.bytes.now in
    let n = g.row.PLACES in
    let place = c.loop-place.place in
    let width : place + (n + 3) - place ≡ n + 3 = omega arith in
    let sum : inner_before xs c.args.start + (c.loop-place.inner + c.block_inner.result) ≡ inner_before xs (place + n)
    = omega (arith, c.loop-place.invariant.1, rw width at c.block_inner.ensures, inner_of_part xs place (n + 3) n (omega arith)) in
    omega (arith, inner_within xs (place + n) (omega arith))
