use Rattle.std.proofs.Common.{◌≡◌, ◌∙◌, ◌+◌, ◌-◌, take, drop, arith, ap, ap₂, sym}
use Rattle.std.proofs.Math.Seq.{take-add}
use Rattle.std.proofs.lemmas.List.{take_rest}
use Rattle.text_runs.specs.ShardRuns.{line_feed_count}
use Rattle.text_positions.proofs.LineLemmas.{feeds_append, feeds_parts}
use Rattle.text_positions.proofs.line_feeds.feeds_of.Goals as goal

pub loop-place-preserved : goal.loop-place-preserved
loop-place-preserved g c =
    let xs = g.T.Elements.list c.args.elements in
    let place = c.loop-place.place in
    let width : place + 192 - place ≡ 192 = omega arith in (
      omega arith,
      ap₂ (λ a b. a + b) c.loop-place.invariant.1 (rw width at c.part_feeds.ensures)
          ∙ sym (ap line_feed_count (take-add place 192 xs) ∙ feeds_append (take place xs) (take 192 (drop place xs))),
    )

pub returns : goal.returns
returns g c =
    let xs = g.T.Elements.list c.args.elements in
    let place = c.loop-place.place in
    let last : c.part_feeds-2.result ≡ line_feed_count (drop place xs) = rw c.count-2.ensures at c.part_feeds-2.ensures ∙ ap line_feed_count (take_rest xs place) in
    omega (arith, c.loop-place.invariant.1, feeds_parts place xs)
