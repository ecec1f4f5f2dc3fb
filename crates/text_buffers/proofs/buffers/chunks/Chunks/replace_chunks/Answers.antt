use Rattle.std.proofs.Common.{◌≡◌, ℕ, ◌-◌, ◌^◌, ◌<◌, List, length, ap, sym, ◌∙◌, arith}
use Rattle.std.specs.List.{concat, splice}
use Rattle.std.specs.Prelude.{slice_range}
use Rattle.text_buffers.specs.ChunkEdits.{Surrounds}
use Rattle.text_buffers.specs.Counts.{counts_of}
use Rattle.text_buffers.proofs.ChangeLemmas.{recount_of_chunks}
use Rattle.text_buffers.proofs.ChunkEditLemmas.{ChunksEdited, chunks_edited, reached_len, reached_ends, reached_small, edit_begins, edit_ends, edit_counted, edit_counts_small, edit_few, edit_held, edit_part, front_kept}
use Rattle.text_buffers.proofs.RowEditLemmas.{rows_fit, were_exchanged}
use Rattle.text_buffers.proofs.buffers.chunks.Chunks.replace_chunks.Goals as goal

pub one_chunk-requires : goal.one_chunk-requires
one_chunk-requires g c =
    let chunks = c.self.inside.chunks.items in
    let around : Surrounds chunks c.args.edit = rw (← c.self.view_is) at c.requires.surrounds in
    rw c.as_slice.ensures.value (record {
      ends = reached_ends chunks c.args.edit c.self.invariant.held.ends around;
      small = reached_small chunks c.args.edit c.self.invariant.held.ends around c.self.invariant.held.small;
    })

pub replace_part-requires-clause-ordered : goal.replace_part-requires-clause-ordered
replace_part-requires-clause-ordered g c = edit_begins c.requires.surrounds

pub replace_part-requires-clause-within : goal.replace_part-requires-clause-within
replace_part-requires-clause-within g c =
    let chunks = c.self.inside.chunks.items in
    let around : Surrounds chunks c.args.edit = rw (← c.self.view_is) at c.requires.surrounds in
    let is = rw c.as_slice.ensures.value at c.in_ok-chunk.ensures in
    omega (
      arith,
      ap length is,
      edit_begins around,
      edit_ends around,
      around.ordered,
      reached_len chunks c.args.edit c.self.invariant.held.ends around,
    )

pub exchange-self-inside-requires-clause-part : goal.exchange-self-inside-requires-clause-part
exchange-self-inside-requires-clause-part g c =
    let chunks = c.self.inside.chunks.items in
    let around : Surrounds chunks c.args.edit = rw (← c.self.view_is) at c.requires.surrounds in
    let part : List ℕ → List ℕ = λ zs. splice zs (c.args.edit.start - c.args.edit.first.place) (c.args.edit.end - c.args.edit.first.place) c.args.new.now in
    let was : c.in_ok-chunk.chunk ≡ concat (slice_range chunks c.args.edit.first.number c.args.edit.last.number) = rw c.as_slice.ensures.value at c.in_ok-chunk.ensures in
    let made = c.in_ok-made.made.items in
    let now : concat made ≡ c.replace_part.new.chunk = c.in_ok-made.ensures.bytes ∙ c.bytes.ensures in
    let edit : ChunksEdited chunks made c.args.edit c.args.new.now
    = chunks_edited chunks made c.args.edit c.args.new.now c.self.invariant.held.ends around c.in_ok-made.ensures.ends (now ∙ (c.in_ok-recount.ensures.ok ∙ ap part was)) in
    edit_part _ _ c.args.edit _ c.self.inside.counts c.counts-gone.result c.self.invariant.counted edit (c.counts-gone.ensures ∙ ap counts_of was)

pub exchange-self-inside-requires-clause-small : goal.exchange-self-inside-requires-clause-small
exchange-self-inside-requires-clause-small g c =
    let chunks = c.self.inside.chunks.items in
    let around : Surrounds chunks c.args.edit = rw (← c.self.view_is) at c.requires.surrounds in
    let fits : length (splice (concat chunks) c.args.edit.start c.args.edit.end c.args.new.now) < 2 ^ 64 = rw (← c.self.view_is) at c.requires.fits in
    let part : List ℕ → List ℕ = λ zs. splice zs (c.args.edit.start - c.args.edit.first.place) (c.args.edit.end - c.args.edit.first.place) c.args.new.now in
    let was : c.in_ok-chunk.chunk ≡ concat (slice_range chunks c.args.edit.first.number c.args.edit.last.number) = rw c.as_slice.ensures.value at c.in_ok-chunk.ensures in
    let made = c.in_ok-made.made.items in
    let now : concat made ≡ c.replace_part.new.chunk = c.in_ok-made.ensures.bytes ∙ c.bytes.ensures in
    let edit : ChunksEdited chunks made c.args.edit c.args.new.now
    = chunks_edited chunks made c.args.edit c.args.new.now c.self.invariant.held.ends around c.in_ok-made.ensures.ends (now ∙ (c.in_ok-recount.ensures.ok ∙ ap part was)) in
    edit_counts_small _ _ c.args.edit _ c.self.inside.counts c.counts-gone.result c.counts-come.result c.self.invariant.counted edit (c.counts-gone.ensures ∙ ap counts_of was)
    (c.counts-come.ensures ∙ ap counts_of (sym now)) fits

pub renew_sums-requires-clause-exchanged : goal.renew_sums-requires-clause-exchanged
renew_sums-requires-clause-exchanged g c =
    let chunks = c.self.inside.chunks.items in
    let around : Surrounds chunks c.args.edit = rw (← c.self.view_is) at c.requires.surrounds in
    let fits : length (splice (concat chunks) c.args.edit.start c.args.edit.end c.args.new.now) < 2 ^ 64 = rw (← c.self.view_is) at c.requires.fits in
    let part : List ℕ → List ℕ = λ zs. splice zs (c.args.edit.start - c.args.edit.first.place) (c.args.edit.end - c.args.edit.first.place) c.args.new.now in
    let was : c.in_ok-chunk.chunk ≡ concat (slice_range chunks c.args.edit.first.number c.args.edit.last.number) = rw c.as_slice.ensures.value at c.in_ok-chunk.ensures in
    let made = c.in_ok-made.made.items in
    let now : concat made ≡ c.replace_part.new.chunk = c.in_ok-made.ensures.bytes ∙ c.bytes.ensures in
    let edit : ChunksEdited chunks made c.args.edit c.args.new.now
    = chunks_edited chunks made c.args.edit c.args.new.now c.self.invariant.held.ends around c.in_ok-made.ensures.ends (now ∙ (c.in_ok-recount.ensures.ok ∙ ap part was)) in
    rw c.in_ok-reserve.ensures.items
    (were_exchanged chunks made _ _ c.args.edit c.args.new.now c.self.inside.counts c.counts-gone.result c.counts-come.result _ c.self.invariant around edit fits
    (c.deref.ensures.value ∙ c.in_ok-put_chunks.ensures.ok) (omega (arith, c.len-count.ensures, c.in_ok-made.made.ok.0)) (c.counts-gone.ensures ∙ ap counts_of was) (c.counts-come.ensures ∙ ap counts_of (sym now)))

pub renew_sums-requires-clause-room : goal.renew_sums-requires-clause-room
renew_sums-requires-clause-room g c =
    let chunks = c.self.inside.chunks.items in
    let around : Surrounds chunks c.args.edit = rw (← c.self.view_is) at c.requires.surrounds in
    let made = c.in_ok-made.made.items in
    let long = ap length (c.deref.ensures.value ∙ c.in_ok-put_chunks.ensures.ok) in
    let all = c.self.invariant.all in
    let many = rows_fit chunks made c.args.edit.first.number c.args.edit.last.number around.in_order around.last.within in
    omega (arith, c.len-count.ensures, c.in_ok-made.made.ok.0, c.in_ok-reserve.ensures.ok, c.in_ok-reserve.ensures.len, c.self.inside.sums.ok.0)

pub invariant_of-self-2 : goal.invariant_of-self-2
invariant_of-self-2 g c =
    let chunks = c.self.inside.chunks.items in
    let around : Surrounds chunks c.args.edit = rw (← c.self.view_is) at c.requires.surrounds in
    let fits : length (splice (concat chunks) c.args.edit.start c.args.edit.end c.args.new.now) < 2 ^ 64 = rw (← c.self.view_is) at c.requires.fits in
    let part : List ℕ → List ℕ = λ zs. splice zs (c.args.edit.start - c.args.edit.first.place) (c.args.edit.end - c.args.edit.first.place) c.args.new.now in
    let was : c.in_ok-chunk.chunk ≡ concat (slice_range chunks c.args.edit.first.number c.args.edit.last.number) = rw c.as_slice.ensures.value at c.in_ok-chunk.ensures in
    let made = c.in_ok-made.made.items in
    let now : concat made ≡ c.replace_part.new.chunk = c.in_ok-made.ensures.bytes ∙ c.bytes.ensures in
    let edit : ChunksEdited chunks made c.args.edit c.args.new.now
    = chunks_edited chunks made c.args.edit c.args.new.now c.self.invariant.held.ends around c.in_ok-made.ensures.ends (now ∙ (c.in_ok-recount.ensures.ok ∙ ap part was)) in
    let is = c.in_ok-put_chunks.ensures.ok in
    rw is (record {
      held = edit_held chunks made c.args.edit c.args.new.now edit fits;
      few = edit_few chunks made c.args.edit.first.number c.args.edit.last.number c.self.invariant.few c.in_ok-made.ensures.few;
      counted = edit_counted _ _ c.args.edit _ c.self.inside.counts c.counts-gone.result c.counts-come.result c.exchange-self-inside.result c.self.invariant.counted edit (c.counts-gone.ensures ∙ ap counts_of was)
          (c.counts-come.ensures ∙ ap counts_of (sym now)) c.exchange-self-inside.ensures;
      rows = rw (← is) (rw c.deref.ensures.value at c.renew_sums.ensures.sums);
      all = rw (← is) (rw c.deref.ensures.value at c.renew_sums.ensures.all);
    })

pub returns-clause-ok : goal.returns-clause-ok
returns-clause-ok g c =
    let chunks = c.self.inside.chunks.items in
    let around : Surrounds chunks c.args.edit = rw (← c.self.view_is) at c.requires.surrounds in
    let part : List ℕ → List ℕ = λ zs. splice zs (c.args.edit.start - c.args.edit.first.place) (c.args.edit.end - c.args.edit.first.place) c.args.new.now in
    let was : c.in_ok-chunk.chunk ≡ concat (slice_range chunks c.args.edit.first.number c.args.edit.last.number) = rw c.as_slice.ensures.value at c.in_ok-chunk.ensures in
    let made = c.in_ok-made.made.items in
    let now : concat made ≡ c.replace_part.new.chunk = c.in_ok-made.ensures.bytes ∙ c.bytes.ensures in
    let edit : ChunksEdited chunks made c.args.edit c.args.new.now
    = chunks_edited chunks made c.args.edit c.args.new.now c.self.invariant.held.ends around c.in_ok-made.ensures.ends (now ∙ (c.in_ok-recount.ensures.ok ∙ ap part was)) in
    rw (← c.self.view_is) (rw c.in_ok-put_chunks.ensures.ok edit.bytes)

pub returns-clause-front : goal.returns-clause-front
returns-clause-front g c =
    let chunks = c.self.inside.chunks.items in
    let around : Surrounds chunks c.args.edit = rw (← c.self.view_is) at c.requires.surrounds in
    rw (← c.self.view_is) (rw c.in_ok-put_chunks.ensures.ok (front_kept chunks c.in_ok-made.made.items c.args.edit around))

pub returns-clause-recount : goal.returns-clause-recount
returns-clause-recount g c =
    let chunks = c.self.inside.chunks.items in
    let around : Surrounds chunks c.args.edit = rw (← c.self.view_is) at c.requires.surrounds in
    let part : List ℕ → List ℕ = λ zs. splice zs (c.args.edit.start - c.args.edit.first.place) (c.args.edit.end - c.args.edit.first.place) c.args.new.now in
    let was : c.in_ok-chunk.chunk ≡ concat (slice_range chunks c.args.edit.first.number c.args.edit.last.number) = rw c.as_slice.ensures.value at c.in_ok-chunk.ensures in
    let made = c.in_ok-made.made.items in
    let now : concat made ≡ c.replace_part.new.chunk = c.in_ok-made.ensures.bytes ∙ c.bytes.ensures in
    let edit : ChunksEdited chunks made c.args.edit c.args.new.now
    = chunks_edited chunks made c.args.edit c.args.new.now c.self.invariant.held.ends around c.in_ok-made.ensures.ends (now ∙ (c.in_ok-recount.ensures.ok ∙ ap part was)) in
    rw (← c.self.view_is, c.in_ok-put_chunks.ensures.ok, edit.bytes)
    (recount_of_chunks chunks c.args.edit c.args.new.now c.replace_part.new.chunk _ _ _ c.self.invariant.held.ends around c.in_ok-recount.ensures.place
    (c.in_ok-recount.ensures.ok ∙ ap part was) (rw was at c.in_ok-recount.ensures.recount))
