use Rattle.std.proofs.Common.{◌≡◌, ◌+◌, ◌≤◌, length, arith, ap, ◌∙◌}
use Rattle.std.specs.List.{concat}
use Rattle.text_buffers.specs.Counts.{counts_of}
use Rattle.text_buffers.specs.Measures.{measure_of}
use Rattle.text_buffers.proofs.ChunkLists.{next_spot, spot_within}
use Rattle.text_buffers.proofs.MeasureLemmas.{measure_more}
use Rattle.text_buffers.proofs.RowLemmas.{spot_of_mark}
use Rattle.text_buffers.proofs.buffers.chunks.Chunks.find_number.Goals as goal

pub loop-found-init : goal.loop-found-init
loop-found-init g c =
    let before = c.count.ensures ∙ ap (measure_of c.args.measure) c.skip-mark.ensures.mark.before in
    (spot_of_mark c.args.self.now c.skip-mark.result c.skip-mark.ensures.mark, before, omega (arith, c.count.ensures, c.skip-mark.ensures.before))

pub overflow_add-found-in-loop-found : goal.overflow_add-found-in-loop-found
overflow_add-found-in-loop-found g c =
    let next = next_spot c.args.self.now _ _ c.chunk-chunk.result.now c.loop-found.invariant.0 (omega arith) c.chunk-chunk.ensures.is in
    let within : c.loop-found.found.spot.place + length c.chunk-chunk.result.now ≤ length (concat c.args.self.now) = spot_within c.args.self.now _ _ next in
    omega (arith, c.len-in-loop-found.ensures)

pub loop-found-preserved : goal.loop-found-preserved
loop-found-preserved g c =
    let x = c.chunk-chunk.result.now in
    let next = next_spot c.args.self.now _ _ x c.loop-found.invariant.0 (omega arith) c.chunk-chunk.ensures.is in
    let more = measure_more c.args.self.now c.args.measure c.loop-found.found.spot.number x c.chunk-chunk.ensures.held.ends (omega arith) c.chunk-chunk.ensures.is in
    let count : c.count-count.result ≡ measure_of c.args.measure (counts_of x) = rw c.counts.ensures at c.count-count.ensures in
    (rw c.len-in-loop-found.ensures next, omega (arith, c.loop-found.invariant.1), omega (arith, c.loop-found.invariant.2))
