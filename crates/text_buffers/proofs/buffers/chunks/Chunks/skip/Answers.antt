use Rattle.std.proofs.Common.{◌≡◌, ◌+◌, arith, ap, inr, sym, take, ◌∙◌}
use Rattle.std.specs.List.{concat}
use Rattle.std.specs.Prelude.{slice_index_or}
use Rattle.text_buffers.specs.Counts.{counts_of}
use Rattle.text_buffers.specs.Measures.{measure_of}
use Rattle.text_buffers.proofs.MeasureLemmas.{measure_none, measure_of_sum}
use Rattle.text_buffers.proofs.RowLemmas.{next_row, no_counts}
use Rattle.text_buffers.proofs.buffers.chunks.Chunks.skip.Goals as goal

pub loop-sum-init : goal.loop-sum-init
loop-sum-init g c =
    let none : measure_of c.args.measure c.of.result ≡ 0 = ap (measure_of c.args.measure) c.of.ensures ∙ sym (measure_none c.args.measure) in
    (record { within = omega arith; before = c.of.ensures }, omega arith, omega arith, λ some. some)

pub plus-mark-requires : goal.plus-mark-requires
plus-mark-requires g c =
    let next = next_row c.args.self.now c.sums-sum-items.result.now c.loop-sum.mark c.loop-sum.sum-index no_counts c.sums-sum-items.ensures.held.ends c.sums-sum-items.ensures.held.small c.sums-sum-items.ensures.sums c.loop-sum.invariant.0 c.loop-sum.invariant.1
    (omega arith) in
    next.small

pub loop-sum-preserved : goal.loop-sum-preserved
loop-sum-preserved g c =
    let next = next_row c.args.self.now c.sums-sum-items.result.now c.loop-sum.mark c.loop-sum.sum-index no_counts c.sums-sum-items.ensures.held.ends c.sums-sum-items.ensures.held.small c.sums-sum-items.ensures.sums c.loop-sum.invariant.0 c.loop-sum.invariant.1
    (omega arith) in
    let fits = next.within in
    let sum = ap (measure_of c.args.measure) c.plus-mark.ensures ∙ measure_of_sum c.args.measure c.loop-sum.mark.before (slice_index_or c.sums-sum-items.result.now c.loop-sum.sum-index no_counts) in
    (record { within = fits; before = c.plus-mark.ensures ∙ next.before }, omega (arith, c.loop-sum.invariant.1), omega (arith, c.loop-sum.invariant.2), λ some. omega arith)

pub returns-then-here-count-clause-near : goal.returns-then-here-count-clause-near
returns-then-here-count-clause-near g c =
    let m = c.args.measure in
    let mark = c.loop-sum.mark in
    let sum = slice_index_or c.sums-sum-items.result.now c.loop-sum.sum-index no_counts in
    let next = next_row c.args.self.now c.sums-sum-items.result.now mark c.loop-sum.sum-index no_counts c.sums-sum-items.ensures.held.ends c.sums-sum-items.ensures.held.small
    c.sums-sum-items.ensures.sums c.loop-sum.invariant.0 c.loop-sum.invariant.1 (omega arith) in
    let all : measure_of m (counts_of (concat (take (mark.number + 256) c.args.self.now))) ≡ measure_of m mark.before + measure_of m sum
    = ap (measure_of m) (sym next.before) ∙ measure_of_sum m mark.before sum in
    inr (omega (arith, c.loop-sum.invariant.2))
