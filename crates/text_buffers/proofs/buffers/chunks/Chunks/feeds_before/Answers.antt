use Rattle.std.proofs.Common.{ap, arith, sym}
use Rattle.text_buffers.specs.declared.buffers.counts.Counts.{Counts}
use Rattle.text_buffers.proofs.LineFeedLemmas.{feeds_found}
use Rattle.text_buffers.proofs.NumberLemmas.{ChunkAt}
use Rattle.text_buffers.proofs.buffers.chunks.Chunks.feeds_before.Goals as goal

pub returns : goal.returns
returns g c =
    let mark = c.mark_at-mark.result in
    let at : ChunkAt c.args.self.now mark.number mark.before.bytes c.chunk.result.now
    = record { ends = c.chunk.ensures.held.ends; spot = c.mark_at-mark.ensures.spot; lt = omega (arith, c.mark_at-mark.ensures.spot.within); is = c.chunk.ensures.is } in
    rw (ap (λ (k : Counts). k.line_feeds) c.mark_at-mark.ensures.mark.before, c.line_feed_count.ensures, c.min.ensures, c.bytes-bytes.ensures)
    (sym (feeds_found c.args.self.now _ _ c.chunk.result.now at c.args.at c.mark_at-mark.ensures.before c.mark_at-mark.ensures.has))
