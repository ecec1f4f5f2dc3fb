use Rattle.std.proofs.Common.{◌-◌}
use Rattle.recoding.proofs.ShardEnds.{NoPartOver}
use Rattle.recoding.proofs.shards.utf8_end.Given as goal

abbrev pub invariant-loop-place : goal.invariant-loop-place
invariant-loop-place l = NoPartOver l.bytes (l.at - 3) l.place l.at
