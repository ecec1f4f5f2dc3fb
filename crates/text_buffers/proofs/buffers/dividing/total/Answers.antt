use Rattle.std.proofs.Common.{ap₂, sym, ◌∙◌, arith}
use Rattle.text_buffers.specs.Counts.{sum_of}
use Rattle.text_buffers.proofs.ChunkEditLemmas.{chunk_counts, chunk_counts_small}
use Rattle.text_buffers.proofs.buffers.dividing.total.Goals as goal

pub plus-sum-requires : goal.plus-sum-requires
plus-sum-requires g c =
    rw (c.loop-chunk.invariant, c.counts.ensures)
    (chunk_counts_small c.args.chunks.now c.loop-chunk.chunk-index c.chunk-item.result c.requires.ends (omega arith) c.chunk-item.is c.requires.small)

pub loop-chunk-preserved : goal.loop-chunk-preserved
loop-chunk-preserved g c =
    c.plus-sum.ensures
    ∙ (ap₂ sum_of c.loop-chunk.invariant c.counts.ensures ∙ sym (chunk_counts c.args.chunks.now c.loop-chunk.chunk-index c.chunk-item.result c.requires.ends (omega arith) c.chunk-item.is))
