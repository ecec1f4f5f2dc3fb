use Rattle.std.proofs.Common.{◌≡◌, ◌+◌, take}
use Rattle.text_runs.specs.ShardRuns.{line_feed_count}
use Rattle.text_buffers.proofs.buffers.line_feeds.feed_end.Given as goal

abbrev pub invariant-loop-place : goal.invariant-loop-place
invariant-loop-place l = l.left + line_feed_count (take l.place l.bytes) ≡ l.before
