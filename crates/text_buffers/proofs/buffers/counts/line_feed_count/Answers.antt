use Rattle.std.proofs.Common.{◌≡◌, ◌+◌, ◌-◌, take, drop, arith, ap, ap₂, sym, ◌∙◌}
use Rattle.std.proofs.Math.Seq.{take-add}
use Rattle.std.proofs.lemmas.List.{take-append-drop, take_rest}
use Rattle.text_runs.specs.ShardRuns.{line_feed_count as feed_count}
use Rattle.text_buffers.proofs.LineFeedLemmas.{feeds_append}
use Rattle.text_buffers.proofs.buffers.counts.line_feed_count.Goals as goal

pub loop-place-preserved : goal.loop-place-preserved
loop-place-preserved c =
    let xs = c.args.bytes.now in
    let place = c.loop-place.place in
    let width : place + 128 - place ≡ 128 = omega arith in (
      omega arith,
      ap₂ (λ a b. a + b) c.loop-place.invariant.1 (rw width at c.part_feeds.ensures)
          ∙ sym (ap feed_count (take-add place 128 xs) ∙ feeds_append (take place xs) (take 128 (drop place xs))),
    )

pub returns : goal.returns
returns c =
    let xs = c.args.bytes.now in
    let place = c.loop-place.place in
    ap₂ (λ a b. a + b) c.loop-place.invariant.1 (c.part_feeds-2.ensures ∙ ap feed_count (take_rest xs place))
    ∙ sym (ap feed_count (sym (take-append-drop place xs)) ∙ feeds_append (take place xs) (drop place xs))
