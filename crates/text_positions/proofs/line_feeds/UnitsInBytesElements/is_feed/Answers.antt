use Rattle.std.proofs.Common.{arith}
use Rattle.utf_lanes.proofs.UnitBytePairs.{count_in_bytes}
use Rattle.text_positions.proofs.line_feeds.UnitsInBytesElements.is_feed.Goals as goal

pub unit_in_bytes-requires : goal.unit_in_bytes-requires
unit_in_bytes-requires g c = omega (arith, c.requires, count_in_bytes g.E.ByteOrder.HIGH_FIRST c.args.self.bytes.now)
