use Rattle.std.proofs.Common.{◌-◌, length}
use Rattle.text_stream.proofs.UnitFaults.{IsGoodToUnit}
use Rattle.text_stream.proofs.runs.unit_bytes.unit_bytes_valid_up_to.Given as goal

abbrev pub invariant-loop-len : goal.invariant-loop-len
invariant-loop-len g l = IsGoodToUnit g.E.ByteOrder.HIGH_FIRST l.bytes l.place

abbrev pub decreases-loop-len : goal.decreases-loop-len
decreases-loop-len g l = length l.bytes - l.place
