use Rattle.std.proofs.Common.{arith, sym}
use Rattle.text_runs.proofs.InnerLemmas.{inner_more, inner_zero}
use Rattle.text_runs.proofs.runs.piece_counts.block_inner.Goals as goal

pub loop-place-init : goal.loop-place-init
loop-place-init g c = (sym (inner_zero c.args.bytes.now), omega arith)

pub loop-place-preserved : goal.loop-place-preserved
loop-place-preserved g c =
    let (is, few) = c.loop-place.invariant in
    let one = c.inner_at-inner.ensures.few in
    (omega (arith, inner_more c.args.bytes.now c.loop-place.place, c.inner_at-inner.ensures.is), omega arith)
