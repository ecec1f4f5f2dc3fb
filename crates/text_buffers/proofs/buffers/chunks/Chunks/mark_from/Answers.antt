use Rattle.std.proofs.Common.{arith, ap, ◌∙◌}
use Rattle.text_buffers.specs.declared.buffers.counts.Counts.{Counts}
use Rattle.text_buffers.proofs.RowLemmas.{mark_has, next_mark, spot_of_mark}
use Rattle.text_buffers.proofs.buffers.chunks.Chunks.mark_from.Goals as goal

pub returns-then-at-mark-clause-spot : goal.returns-then-at-mark-clause-spot
returns-then-at-mark-clause-spot g c = spot_of_mark c.args.self.now c.loop-mark.mark c.loop-mark.invariant.0

pub returns-then-at-mark-clause-has : goal.returns-then-at-mark-clause-has
returns-then-at-mark-clause-has g c some =
    let x = c.chunk.result.now in
    let len = ap (λ (k : Counts). k.bytes) c.counts-counts.ensures in
    mark_has c.args.self.now c.loop-mark.mark x c.args.at c.loop-mark.invariant.0 (omega arith) c.chunk.ensures.is c.loop-mark.invariant.1 (omega arith)

pub plus-mark-requires : goal.plus-mark-requires
plus-mark-requires g c =
    let next = next_mark c.args.self.now c.loop-mark.mark c.chunk.result.now c.counts-counts.result c.chunk.ensures.held.ends c.chunk.ensures.held.small c.loop-mark.invariant.0 (omega arith) c.chunk.ensures.is c.counts-counts.ensures in
    next.small

pub loop-mark-preserved : goal.loop-mark-preserved
loop-mark-preserved g c =
    let next = next_mark c.args.self.now c.loop-mark.mark c.chunk.result.now c.counts-counts.result c.chunk.ensures.held.ends c.chunk.ensures.held.small c.loop-mark.invariant.0 (omega arith) c.chunk.ensures.is c.counts-counts.ensures in
    let len = ap (λ (k : Counts). k.bytes) c.plus-mark.ensures in
    (record { within = omega arith; before = c.plus-mark.ensures ∙ next.before }, omega (arith, c.loop-mark.invariant.1), λ some. omega arith)

pub returns-clause-spot : goal.returns-clause-spot
returns-clause-spot g c = spot_of_mark c.args.self.now c.loop-mark.mark c.loop-mark.invariant.0
