use Rattle.utf_lanes.proofs.UnitBytePairs.{count_in_bytes}
use Rattle.utf_lanes.proofs.unit_starts.UnitsInBytesUnitList.count.Goals as goal

pub returns : goal.returns
returns g c = count_in_bytes g.E.ByteOrder.HIGH_FIRST c.args.self.bytes.now
