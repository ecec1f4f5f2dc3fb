use Rattle.std.proofs.Common.{◌≡◌, ◌≤◌, length, drop}
use Rattle.text_runs.specs.ShardRuns.{line_feed_count}
use Rattle.text_positions.proofs.line_feeds.calm_end.Given as goal

abbrev pub invariant-loop-place : goal.invariant-loop-place
invariant-loop-place g l = (l.place ≤ length (g.T.Elements.list l.elements)) × (line_feed_count (drop l.place (g.T.Elements.list l.elements)) ≡ 0)

abbrev pub decreases-loop-place : goal.decreases-loop-place
decreases-loop-place g l = l.place
