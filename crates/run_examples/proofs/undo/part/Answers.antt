use Rattle.std.proofs.Common.{◌++◌, take, ap, ◌∙◌, arith}
use Rattle.run_examples.proofs.UndoLemmas.{part_copied}
use Rattle.run_examples.proofs.undo.part.Goals as goal

pub loop-place-preserved : goal.loop-place-preserved
loop-place-preserved g c =
    let chunk = c.chunk_at-chunk.result.now in
    let count = c.min-count.result in
    record {
      from = omega (arith, c.loop-place.invariant.from);
      within = omega (arith, c.min-count.ensures, c.loop-place.invariant.within);
      bytes = c.in_ok-extend_from_slice.ensures.items
          ∙ (ap (λ ys. ys ++ take count chunk) c.loop-place.invariant.bytes
          ∙ part_copied c.args.text.now chunk c.args.start c.loop-place.place count c.loop-place.invariant.from (omega (arith, c.min-count.ensures)) c.chunk_at-chunk.ensures.bytes);
    }
