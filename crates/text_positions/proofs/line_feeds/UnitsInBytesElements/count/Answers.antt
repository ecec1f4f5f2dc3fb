use Rattle.utf_lanes.proofs.UnitBytePairs.{count_in_bytes}
use Rattle.text_positions.proofs.line_feeds.UnitsInBytesElements.count.Goals as goal

pub returns : goal.returns
returns g c = count_in_bytes g.E.ByteOrder.HIGH_FIRST c.args.self.bytes.now
