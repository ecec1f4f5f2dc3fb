use Rattle.std.proofs.Common.{arith}
use Rattle.utf_lanes.proofs.UnitBytePairs.{count_in_bytes}
use Rattle.utf_lanes.proofs.unit_starts.UnitsInBytesUnitList.block_starts.Goals as goal

pub byte_block_starts-requires-clause-within : goal.byte_block_starts-requires-clause-within
byte_block_starts-requires-clause-within g c = omega (arith, c.requires.within, count_in_bytes g.E.ByteOrder.HIGH_FIRST c.args.self.bytes.now)
