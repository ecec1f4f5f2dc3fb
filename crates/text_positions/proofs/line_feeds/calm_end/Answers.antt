use Rattle.std.proofs.Common.{◌≡◌, ◌∙◌, ◌-◌, drop, arith, ap}
use Rattle.std.proofs.lemmas.List.{drop-drop}
use Rattle.text_runs.specs.ShardRuns.{line_feed_count}
use Rattle.text_positions.proofs.LineLemmas.{feeds_parts}
use Rattle.text_positions.proofs.line_feeds.calm_end.Goals as goal

pub loop-place-preserved : goal.loop-place-preserved
loop-place-preserved g c =
    let xs = g.T.Elements.list c.args.elements in
    let place = c.loop-place.place in
    let width : place - (place - 16) ≡ 16 = omega arith in
    let on : drop 16 (drop (place - 16) xs) ≡ drop place xs = drop-drop 16 (place - 16) xs ∙ ap (λ n. drop n xs) (omega arith) in
    let part = rw width at c.part_feeds.ensures in
    (omega arith, omega (arith, feeds_parts 16 (drop (place - 16) xs), ap line_feed_count on, part, c.loop-place.invariant.1))
