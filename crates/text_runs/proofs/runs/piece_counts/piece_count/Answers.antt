use Rattle.std.proofs.Common.{arith}
use Rattle.text_runs.proofs.InnerLemmas.{inner_within, inner_zero, others_begin}
use Rattle.text_runs.proofs.runs.piece_counts.piece_count.Goals as goal

pub overflow_sub-result : goal.overflow_sub-result
overflow_sub-result c =
    let xs = c.args.bytes.now in
    omega (arith, c.blocks_inner-wide.ensures.inner, inner_zero xs, inner_within xs c.blocks_inner-wide.result.place c.blocks_inner-wide.ensures.within)

pub overflow_sub-result-2 : goal.overflow_sub-result-2
overflow_sub-result-2 c =
    let xs = c.args.bytes.now in
    let wide = c.blocks_inner-wide.ensures in
    let all = c.blocks_inner-all.ensures in
    omega (arith, wide.inner, all.inner, inner_zero xs, inner_within xs c.blocks_inner-all.result.place all.within)

pub overflow_sub-result-3 : goal.overflow_sub-result-3
overflow_sub-result-3 c =
    let xs = c.args.bytes.now in
    omega (arith, c.blocks_inner-wide.ensures.inner, c.blocks_inner-all.ensures.inner, c.inner_from.ensures, inner_zero xs, others_begin xs)

pub returns : goal.returns
returns c =
    let xs = c.args.bytes.now in
    omega (arith, c.blocks_inner-wide.ensures.inner, c.blocks_inner-all.ensures.inner, c.inner_from.ensures, inner_zero xs, others_begin xs)
