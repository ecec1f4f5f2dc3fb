use Rattle.std.proofs.Common.{◌≡◌, take}
use Rattle.text_runs.specs.ShardRuns.{line_feed_count}
use Rattle.text_positions.proofs.line_feeds.RefSliceU8Elements.part_feeds.Given as goal

abbrev pub invariant-loop-byte : goal.invariant-loop-byte
invariant-loop-byte l = l.feeds ≡ line_feed_count (take l.byte-index l.part)
