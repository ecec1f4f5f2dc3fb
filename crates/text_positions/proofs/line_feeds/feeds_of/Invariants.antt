use Rattle.std.proofs.Common.{◌≡◌, ◌-◌, ◌≤◌, length, take}
use Rattle.text_runs.specs.ShardRuns.{line_feed_count}
use Rattle.text_positions.proofs.line_feeds.feeds_of.Given as goal

abbrev pub invariant-loop-place : goal.invariant-loop-place
invariant-loop-place g l = (l.place ≤ length (g.T.Elements.list l.elements)) × (l.feeds ≡ line_feed_count (take l.place (g.T.Elements.list l.elements)))

abbrev pub decreases-loop-place : goal.decreases-loop-place
decreases-loop-place g l = length (g.T.Elements.list l.elements) - l.place
