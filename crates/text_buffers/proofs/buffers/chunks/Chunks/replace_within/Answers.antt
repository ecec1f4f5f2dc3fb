use Rattle.std.proofs.Common.{◌-◌, ◌^◌, ◌<◌, [], ◌∷◌, length, refl, ap, sym, ◌∙◌, arith}
use Rattle.std.specs.List.{concat, splice}
use Rattle.text_buffers.specs.ChunkEdits.{Surrounds}
use Rattle.text_buffers.specs.Counts.{counts_of}
use Rattle.text_buffers.proofs.ChangeLemmas.{recount_of_chunks}
use Rattle.text_buffers.proofs.ChunkEditLemmas.{OnErr-always, OneEdited, one_edited, one_len, one_few, set_read, edit_begins, edit_ends, edit_counted, edit_counts_small, edit_held, edit_part, front_kept}
use Rattle.text_buffers.proofs.RowEditLemmas.{were_exchanged}
use Rattle.text_buffers.proofs.buffers.chunks.Chunks.replace_within.Goals as goal

pub replace_part-requires-clause-ordered : goal.replace_part-requires-clause-ordered
replace_part-requires-clause-ordered g c = edit_begins c.requires.surrounds

pub replace_part-requires-clause-within : goal.replace_part-requires-clause-within
replace_part-requires-clause-within g c =
    let chunks = c.self.inside.chunks.items in
    let around : Surrounds chunks c.args.edit = rw (← c.self.view_is) at c.requires.surrounds in
    omega (
      arith,
      edit_begins around,
      edit_ends around,
      around.ordered,
      one_len chunks c.args.edit c.index_mut-chunk.result.now c.self.invariant.held.ends around c.requires.one c.index_mut-chunk.ensures.value,
    )

pub exchange-self-inside-requires-clause-part : goal.exchange-self-inside-requires-clause-part
exchange-self-inside-requires-clause-part g c =
    let chunks = c.self.inside.chunks.items in
    let around : Surrounds chunks c.args.edit = rw (← c.self.view_is) at c.requires.surrounds in
    let one : OneEdited chunks c.args.edit c.args.new.now c.index_mut-chunk.result.now c.replace_part.new.chunk
    = one_edited chunks c.args.edit c.args.new.now c.index_mut-chunk.result.now c.replace_part.new.chunk c.self.invariant.held.ends around c.requires.one c.index_mut-chunk.ensures.value c.in_ok-recount.ensures.ok in
    edit_part _ _ c.args.edit _ c.self.inside.counts c.counts-gone.result c.self.invariant.counted one.edit (c.counts-gone.ensures ∙ ap counts_of (sym one.was_is))

pub exchange-self-inside-requires-clause-small : goal.exchange-self-inside-requires-clause-small
exchange-self-inside-requires-clause-small g c =
    let chunks = c.self.inside.chunks.items in
    let around : Surrounds chunks c.args.edit = rw (← c.self.view_is) at c.requires.surrounds in
    let fits : length (splice (concat chunks) c.args.edit.start c.args.edit.end c.args.new.now) < 2 ^ 64 = rw (← c.self.view_is) at c.requires.fits in
    let one : OneEdited chunks c.args.edit c.args.new.now c.index_mut-chunk.result.now c.replace_part.new.chunk
    = one_edited chunks c.args.edit c.args.new.now c.index_mut-chunk.result.now c.replace_part.new.chunk c.self.invariant.held.ends around c.requires.one c.index_mut-chunk.ensures.value c.in_ok-recount.ensures.ok in
    edit_counts_small _ _ c.args.edit _ c.self.inside.counts c.counts-gone.result c.counts-come.result c.self.invariant.counted one.edit (c.counts-gone.ensures ∙ ap counts_of (sym one.was_is))
    (c.counts-come.ensures ∙ ap counts_of (sym one.now_is)) fits

pub renew_sums-requires-clause-exchanged : goal.renew_sums-requires-clause-exchanged
renew_sums-requires-clause-exchanged g c =
    let chunks = c.self.inside.chunks.items in
    let around : Surrounds chunks c.args.edit = rw (← c.self.view_is) at c.requires.surrounds in
    let fits : length (splice (concat chunks) c.args.edit.start c.args.edit.end c.args.new.now) < 2 ^ 64 = rw (← c.self.view_is) at c.requires.fits in
    let one : OneEdited chunks c.args.edit c.args.new.now c.index_mut-chunk.result.now c.replace_part.new.chunk
    = one_edited chunks c.args.edit c.args.new.now c.index_mut-chunk.result.now c.replace_part.new.chunk c.self.invariant.held.ends around c.requires.one c.index_mut-chunk.ensures.value c.in_ok-recount.ensures.ok in
    were_exchanged chunks (c.replace_part.new.chunk ∷ []) _ _ c.args.edit c.args.new.now c.self.inside.counts c.counts-gone.result c.counts-come.result 1 c.self.invariant
    around one.edit fits (c.deref.ensures.value ∙ one.set_is) refl (c.counts-gone.ensures ∙ ap counts_of (sym one.was_is)) (c.counts-come.ensures ∙ ap counts_of (sym one.now_is))

pub returns-clause-ok : goal.returns-clause-ok
returns-clause-ok g c =
    let chunks = c.self.inside.chunks.items in
    let around : Surrounds chunks c.args.edit = rw (← c.self.view_is) at c.requires.surrounds in
    let one : OneEdited chunks c.args.edit c.args.new.now c.index_mut-chunk.result.now c.replace_part.new.chunk
    = one_edited chunks c.args.edit c.args.new.now c.index_mut-chunk.result.now c.replace_part.new.chunk c.self.invariant.held.ends around c.requires.one c.index_mut-chunk.ensures.value c.in_ok-recount.ensures.ok in
    rw (← c.self.view_is) (rw one.set_is one.edit.bytes)

pub returns-clause-front : goal.returns-clause-front
returns-clause-front g c =
    let chunks = c.self.inside.chunks.items in
    let around : Surrounds chunks c.args.edit = rw (← c.self.view_is) at c.requires.surrounds in
    let one : OneEdited chunks c.args.edit c.args.new.now c.index_mut-chunk.result.now c.replace_part.new.chunk
    = one_edited chunks c.args.edit c.args.new.now c.index_mut-chunk.result.now c.replace_part.new.chunk c.self.invariant.held.ends around c.requires.one c.index_mut-chunk.ensures.value c.in_ok-recount.ensures.ok in
    rw (← c.self.view_is) (rw one.set_is (front_kept chunks (c.replace_part.new.chunk ∷ []) c.args.edit around))

pub returns-clause-recount : goal.returns-clause-recount
returns-clause-recount g c =
    let chunks = c.self.inside.chunks.items in
    let around : Surrounds chunks c.args.edit = rw (← c.self.view_is) at c.requires.surrounds in
    let one : OneEdited chunks c.args.edit c.args.new.now c.index_mut-chunk.result.now c.replace_part.new.chunk
    = one_edited chunks c.args.edit c.args.new.now c.index_mut-chunk.result.now c.replace_part.new.chunk c.self.invariant.held.ends around c.requires.one c.index_mut-chunk.ensures.value c.in_ok-recount.ensures.ok in
    let is = c.in_ok-recount.ensures.ok ∙ ap (λ zs. splice zs (c.args.edit.start - c.args.edit.first.place) (c.args.edit.end - c.args.edit.first.place) c.args.new.now) (sym one.was_is) in
    rw (← c.self.view_is, one.set_is, one.edit.bytes)
    (recount_of_chunks chunks c.args.edit c.args.new.now c.replace_part.new.chunk _ _ _ c.self.invariant.held.ends around c.in_ok-recount.ensures.place is
    (rw one.was_is c.in_ok-recount.ensures.recount))

pub invariant_of-self-2 : goal.invariant_of-self-2
invariant_of-self-2 g c =
    let chunks = c.self.inside.chunks.items in
    let around : Surrounds chunks c.args.edit = rw (← c.self.view_is) at c.requires.surrounds in
    let fits : length (splice (concat chunks) c.args.edit.start c.args.edit.end c.args.new.now) < 2 ^ 64 = rw (← c.self.view_is) at c.requires.fits in
    let one : OneEdited chunks c.args.edit c.args.new.now c.index_mut-chunk.result.now c.replace_part.new.chunk
    = one_edited chunks c.args.edit c.args.new.now c.index_mut-chunk.result.now c.replace_part.new.chunk c.self.invariant.held.ends around c.requires.one c.index_mut-chunk.ensures.value c.in_ok-recount.ensures.ok in
    rw one.set_is (record {
      held = edit_held chunks (c.replace_part.new.chunk ∷ []) c.args.edit c.args.new.now one.edit fits;
      few = rw (← one.set_is)
          (one_few chunks c.args.edit c.args.new.now c.index_mut-chunk.result.now c.replace_part.new.chunk c.self.invariant.held.ends around c.requires.one c.requires.room c.index_mut-chunk.ensures.value
          c.in_ok-recount.ensures.ok c.self.invariant.few);
      counted = edit_counted _ _ c.args.edit _ c.self.inside.counts c.counts-gone.result c.counts-come.result c.exchange-self-inside.result c.self.invariant.counted one.edit (c.counts-gone.ensures ∙ ap counts_of (sym one.was_is))
          (c.counts-come.ensures ∙ ap counts_of (sym one.now_is)) c.exchange-self-inside.ensures;
      rows = rw (← one.set_is) (rw c.deref.ensures.value at c.renew_sums.ensures.sums);
      all = rw (← one.set_is) (rw c.deref.ensures.value at c.renew_sums.ensures.all);
    })

pub invariant_of-self : goal.invariant_of-self
invariant_of-self g c =
    rw (set_read c.self.inside.chunks.items c.args.edit.first.number c.index_mut-chunk.result.now c.replace_part.new.chunk c.index_mut-chunk.ensures.value c.in_err-recount.ensures.err) c.self.invariant

pub returns-in_err-recount-clause-err : goal.returns-in_err-recount-clause-err
returns-in_err-recount-clause-err g c =
    OnErr-always c.from_residual.result
    (set_read c.self.inside.chunks.items c.args.edit.first.number c.index_mut-chunk.result.now c.replace_part.new.chunk c.index_mut-chunk.ensures.value c.in_err-recount.ensures.err ∙ c.self.view_is)
