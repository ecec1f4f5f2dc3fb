use Rattle.std.proofs.Common.{◌≡◌, ◌+◌, arith}
use Rattle.std.proofs.lemmas.List.{take_rest}
use Rattle.text_runs.specs.InnerBytes.{inner_before}
use Rattle.text_runs.proofs.InnerLemmas.{inner_more, inner_within}
use Rattle.text_runs.proofs.runs.piece_counts.inner_from.Goals as goal

pub loop-place-preserved : goal.loop-place-preserved
loop-place-preserved c =
    let xs = c.args.bytes.now in
    let place = c.loop-place.place in
    omega (arith, c.loop-place.invariant, inner_more xs place, rw (take_rest xs place) at c.front_inner-inner.ensures)

pub overflow_add-inner : goal.overflow_add-inner
overflow_add-inner c =
    let xs = c.args.bytes.now in
    let place = c.loop-place.place in
    let sum : inner_before xs c.args.start + (c.loop-place.inner + c.front_inner-inner.result) ≡ inner_before xs (place + 1)
    = omega (arith, c.loop-place.invariant, inner_more xs place, rw (take_rest xs place) at c.front_inner-inner.ensures) in
    omega (arith, inner_within xs (place + 1) (omega arith))
