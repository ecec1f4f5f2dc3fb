use Rattle.std.proofs.Common.{◌≡◌}
use Rattle.std.specs.Prelude.{slice_range}
use Rattle.utf_lanes.specs.BytePairs.{units_of}
use Rattle.text_runs.specs.ShardRuns.{line_feed_count}
use Rattle.text_positions.proofs.line_feeds.UnitsInBytesElements.part_feeds.Given as goal

abbrev pub invariant-loop-place : goal.invariant-loop-place
invariant-loop-place g l = l.feeds ≡ line_feed_count (slice_range (units_of g.E.ByteOrder.HIGH_FIRST l.self.bytes.now) l.from l.place)
