use Rattle.std.proofs.Common.{◌+◌, arith}
use Rattle.utf_lanes.specs.BytePairs.{units_of}
use Rattle.text_positions.proofs.LineLemmas.{feeds_few, feeds_more}
use Rattle.text_positions.proofs.line_feeds.UnitsInBytesElements.part_feeds.Goals as goal

pub loop-place-preserved : goal.loop-place-preserved
loop-place-preserved g c =
    omega (arith, c.loop-place.invariant, feeds_more (units_of g.E.ByteOrder.HIGH_FIRST c.args.self.bytes.now) c.args.from c.loop-place.place c.is_feed.result (omega arith) (omega arith) c.is_feed.ensures)

pub overflow_add-feeds : goal.overflow_add-feeds
overflow_add-feeds g c =
    let few = feeds_few (units_of g.E.ByteOrder.HIGH_FIRST c.args.self.bytes.now) c.args.from (c.loop-place.place + 1) in
    omega (arith, loop-place-preserved g c)
