use Rattle.std.proofs.Common.{ap, arith}
use Rattle.std.specs.List.{concat}
use Rattle.text_buffers.specs.ChunkEdits.{Surrounds}
use Rattle.text_buffers.specs.declared.buffers.counts.Counts.{Counts}
use Rattle.text_buffers.proofs.ChunkEditLemmas.{edit_begins, edit_ends}
use Rattle.text_buffers.proofs.WindowEdits.{length-splice}
use Rattle.text_buffers.proofs.buffers.chunks.Chunks.replace.Goals as goal

pub overflow_sub-left-2 : goal.overflow_sub-left-2
overflow_sub-left-2 g c =
    let around : Surrounds c.self.inside.chunks.items c.args.edit = rw (← c.self.view_is) at c.requires in
    omega (arith, ap (λ (k : Counts). k.bytes) c.self.invariant.counted, around.within)

pub overflow_sub-reached : goal.overflow_sub-reached
overflow_sub-reached g c = omega (arith, edit_begins c.requires, edit_ends c.requires, c.requires.ordered)

pub replace_within-requires-clause-fits : goal.replace_within-requires-clause-fits
replace_within-requires-clause-fits g c =
    let chunks = c.self.inside.chunks.items in
    let around : Surrounds chunks c.args.edit = rw (← c.self.view_is) at c.requires in
    rw (← c.self.view_is)
    (omega (
      arith,
      ap (λ (k : Counts). k.bytes) c.self.invariant.counted,
      around.within,
      length-splice (concat chunks) c.args.new.now c.args.edit.start c.args.edit.end around.ordered around.within,
    ))

pub replace_chunks-requires-clause-fits : goal.replace_chunks-requires-clause-fits
replace_chunks-requires-clause-fits g c =
    let chunks = c.self.inside.chunks.items in
    let around : Surrounds chunks c.args.edit = rw (← c.self.view_is) at c.requires in
    rw (← c.self.view_is)
    (omega (
      arith,
      ap (λ (k : Counts). k.bytes) c.self.invariant.counted,
      around.within,
      length-splice (concat chunks) c.args.new.now c.args.edit.start c.args.edit.end around.ordered around.within,
    ))
