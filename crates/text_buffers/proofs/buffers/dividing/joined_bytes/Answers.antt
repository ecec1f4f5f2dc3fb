use Rattle.std.proofs.Common.{◌++◌, ap₂, sym, ◌∙◌, arith}
use Rattle.text_buffers.proofs.ChunkLists.{concat-take-more}
use Rattle.text_buffers.proofs.buffers.dividing.joined_bytes.Goals as goal

pub loop-chunk-preserved : goal.loop-chunk-preserved
loop-chunk-preserved g c =
    c.in_ok-extend_from_slice.ensures.items
    ∙ (ap₂ (λ ys zs. ys ++ zs) c.loop-chunk.invariant c.bytes.ensures ∙ sym (concat-take-more c.args.chunks.now c.loop-chunk.chunk-index c.chunk-item.result (omega arith) c.chunk-item.is))
