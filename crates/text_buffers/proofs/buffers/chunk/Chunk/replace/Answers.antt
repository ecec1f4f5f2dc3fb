use Rattle.std.proofs.Common.{◌≡◌, ◌-◌, ◌≤◌, length, ap, ◌∙◌, arith}
use Rattle.std.specs.Prelude.{slice_range}
use Rattle.text_buffers.specs.Counts.{counts_of}
use Rattle.text_buffers.proofs.ChangeLemmas.{recount_is}
use Rattle.text_buffers.proofs.CountLemmas.{counts_small}
use Rattle.text_buffers.proofs.WindowEdits.{window_begins, window_ends, window_in_order, window_rest, recounted, gone_part}
use Rattle.text_buffers.proofs.buffers.chunk.Chunk.replace.Goals as goal

pub overflow_sub-rest : goal.overflow_sub-rest
overflow_sub-rest g c = omega (arith, c.window_of-window.ensures.window.within)

pub slice_bounds-of-count : goal.slice_bounds-of-count
slice_bounds-of-count g c =
    let within : c.args.end ≤ length c.self.inside.bytes.items = rw (← c.self.view_is) at c.requires.within in
    let w = rw c.as_slice-held.ensures.value at c.window_of-window.ensures.window in
    omega (
      arith,
      window_begins c.self.inside.bytes.items c.args.new.now c.args.start c.args.end _ _ c.requires.ordered within w,
      window_ends c.self.inside.bytes.items c.args.new.now c.args.start c.args.end _ _ c.requires.ordered within w,
    )

pub slice_bounds-of-start : goal.slice_bounds-of-start
slice_bounds-of-start g c =
    let within : c.args.end ≤ length c.self.inside.bytes.items = rw (← c.self.view_is) at c.requires.within in
    let w = rw c.as_slice-held.ensures.value at c.window_of-window.ensures.window in
    omega (
      arith,
      window_begins c.self.inside.bytes.items c.args.new.now c.args.start c.args.end _ _ c.requires.ordered within w,
      window_ends c.self.inside.bytes.items c.args.new.now c.args.start c.args.end _ _ c.requires.ordered within w,
    )

pub overflow_sub-until : goal.overflow_sub-until
overflow_sub-until g c =
    let within : c.args.end ≤ length c.self.inside.bytes.items = rw (← c.self.view_is) at c.requires.within in
    let xs = c.self.inside.bytes.items in
    let ys = c.splice_in.new.items.items in
    let w = rw c.as_slice-held.ensures.value at c.window_of-window.ensures.window in
    let held : length c.as_slice-held.result.now ≡ length xs = ap length c.as_slice-held.ensures.value in
    let now : length c.as_slice-now.result.now ≡ length ys = ap length c.as_slice-now.ensures.value in
    omega (arith, window_rest xs ys c.args.new.now c.args.start c.args.end c.window_of-window.result.from c.window_of-window.result.until c.requires.ordered within w c.in_ok-splice_in.ensures.ok)

pub slice_bounds-of-count-2 : goal.slice_bounds-of-count-2
slice_bounds-of-count-2 g c =
    let within : c.args.end ≤ length c.self.inside.bytes.items = rw (← c.self.view_is) at c.requires.within in
    let xs = c.self.inside.bytes.items in
    let ys = c.splice_in.new.items.items in
    let w = rw c.as_slice-held.ensures.value at c.window_of-window.ensures.window in
    let held : length c.as_slice-held.result.now ≡ length xs = ap length c.as_slice-held.ensures.value in
    let now : length c.as_slice-now.result.now ≡ length ys = ap length c.as_slice-now.ensures.value in
    omega (
      arith,
      window_in_order xs ys c.args.new.now c.args.start c.args.end c.window_of-window.result.from c.window_of-window.result.until
          (length c.as_slice-now.result.now - (length c.as_slice-held.result.now - c.window_of-window.result.until)) c.self.inside.counts c.of-gone.result c.of-gone.result c.requires.ordered within w c.in_ok-splice_in.ensures.ok (omega arith),
    )

pub slice_bounds-of-start-2 : goal.slice_bounds-of-start-2
slice_bounds-of-start-2 g c =
    let within : c.args.end ≤ length c.self.inside.bytes.items = rw (← c.self.view_is) at c.requires.within in
    let xs = c.self.inside.bytes.items in
    let ys = c.splice_in.new.items.items in
    let w = rw c.as_slice-held.ensures.value at c.window_of-window.ensures.window in
    let held : length c.as_slice-held.result.now ≡ length xs = ap length c.as_slice-held.ensures.value in
    let now : length c.as_slice-now.result.now ≡ length ys = ap length c.as_slice-now.ensures.value in
    omega (
      arith,
      window_in_order xs ys c.args.new.now c.args.start c.args.end c.window_of-window.result.from c.window_of-window.result.until
          (length c.as_slice-now.result.now - (length c.as_slice-held.result.now - c.window_of-window.result.until)) c.self.inside.counts c.of-gone.result c.of-gone.result c.requires.ordered within w c.in_ok-splice_in.ensures.ok (omega arith),
    )

pub exchange-self-inside-requires-clause-part : goal.exchange-self-inside-requires-clause-part
exchange-self-inside-requires-clause-part g c =
    let within : c.args.end ≤ length c.self.inside.bytes.items = rw (← c.self.view_is) at c.requires.within in
    let w = rw c.as_slice-held.ensures.value at c.window_of-window.ensures.window in
    gone_part c.self.inside.bytes.items c.args.new.now c.args.start c.args.end _ _ _ _ c.requires.ordered within w c.self.invariant
    (rw c.as_slice-held.ensures.value at c.of-gone.ensures)

pub exchange-self-inside-requires-clause-small : goal.exchange-self-inside-requires-clause-small
exchange-self-inside-requires-clause-small g c =
    let within : c.args.end ≤ length c.self.inside.bytes.items = rw (← c.self.view_is) at c.requires.within in
    let xs = c.self.inside.bytes.items in
    let ys = c.splice_in.new.items.items in
    let w = rw c.as_slice-held.ensures.value at c.window_of-window.ensures.window in
    let held : length c.as_slice-held.result.now ≡ length xs = ap length c.as_slice-held.ensures.value in
    let now : length c.as_slice-now.result.now ≡ length ys = ap length c.as_slice-now.ensures.value in
    let is = recounted xs ys c.args.new.now c.args.start c.args.end c.window_of-window.result.from c.window_of-window.result.until
    (length c.as_slice-now.result.now - (length c.as_slice-held.result.now - c.window_of-window.result.until)) c.self.inside.counts c.of-gone.result c.of-come.result c.requires.ordered within w c.in_ok-splice_in.ensures.ok
    (omega arith) c.self.invariant (rw c.as_slice-held.ensures.value at c.of-gone.ensures) (c.of-come.ensures ∙ ap (λ zs. counts_of (slice_range zs c.window_of-window.result.from (length c.as_slice-now.result.now - (length c.as_slice-held.result.now - c.window_of-window.result.until)))) c.as_slice-now.ensures.value) in
    rw is (counts_small ys (omega (arith, c.as_slice-now.type_inv)))

pub invariant_of-self-2 : goal.invariant_of-self-2
invariant_of-self-2 g c =
    let within : c.args.end ≤ length c.self.inside.bytes.items = rw (← c.self.view_is) at c.requires.within in
    let xs = c.self.inside.bytes.items in
    let ys = c.splice_in.new.items.items in
    let w = rw c.as_slice-held.ensures.value at c.window_of-window.ensures.window in
    let held : length c.as_slice-held.result.now ≡ length xs = ap length c.as_slice-held.ensures.value in
    let now : length c.as_slice-now.result.now ≡ length ys = ap length c.as_slice-now.ensures.value in
    c.exchange-self-inside.ensures
    ∙ recounted xs ys c.args.new.now c.args.start c.args.end c.window_of-window.result.from c.window_of-window.result.until
    (length c.as_slice-now.result.now - (length c.as_slice-held.result.now - c.window_of-window.result.until)) c.self.inside.counts c.of-gone.result c.of-come.result c.requires.ordered within w c.in_ok-splice_in.ensures.ok
    (omega arith) c.self.invariant (rw c.as_slice-held.ensures.value at c.of-gone.ensures) (c.of-come.ensures ∙ ap (λ zs. counts_of (slice_range zs c.window_of-window.result.from (length c.as_slice-now.result.now - (length c.as_slice-held.result.now - c.window_of-window.result.until)))) c.as_slice-now.ensures.value)

pub returns-clause-recount : goal.returns-clause-recount
returns-clause-recount g c =
    let within : c.args.end ≤ length c.self.inside.bytes.items = rw (← c.self.view_is) at c.requires.within in
    let xs = c.self.inside.bytes.items in
    let ys = c.splice_in.new.items.items in
    let a = c.window_of-window.result.from in
    let b = c.window_of-window.result.until in
    let u = length c.as_slice-now.result.now - (length c.as_slice-held.result.now - b) in
    let w = rw c.as_slice-held.ensures.value at c.window_of-window.ensures.window in
    let held : length c.as_slice-held.result.now ≡ length xs = ap length c.as_slice-held.ensures.value in
    let now : length c.as_slice-now.result.now ≡ length ys = ap length c.as_slice-now.ensures.value in
    let until : u ≡ length ys - (length xs - b) = omega arith in
    rw (← c.self.view_is) (recount_is xs ys c.args.new.now c.args.start c.args.end a b u c.of-gone.result c.of-come.result c.requires.ordered within w c.in_ok-splice_in.ensures.ok until
    (rw c.as_slice-held.ensures.value at c.window_of-window.ensures.begins)
    (rw c.as_slice-held.ensures.value at c.window_of-window.ensures.ends)
    (rw c.as_slice-held.ensures.value at c.of-gone.ensures)
    (c.of-come.ensures ∙ ap (λ zs. counts_of (slice_range zs a u)) c.as_slice-now.ensures.value))
