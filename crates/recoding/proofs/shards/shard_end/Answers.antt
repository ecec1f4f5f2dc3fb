use Rattle.recoding.proofs.LossyShards.{end_is_boundary, lossy_apart, recoded_apart_there}
use Rattle.recoding.proofs.ShardEnds.{last_is_end}
use Rattle.recoding.proofs.shards.shard_end.Goals as goal

pub returns-then-bytes-at-clause-end : goal.returns-then-bytes-at-clause-end
returns-then-bytes-at-clause-end c = last_is_end c.args.from c.args.bytes.now c.args.at c.if-bytes-at.true

pub returns-then-bytes-at-clause-boundary : goal.returns-then-bytes-at-clause-boundary
returns-then-bytes-at-clause-boundary c = let end = returns-then-bytes-at-clause-end c in end_is_boundary c.args.from c.args.bytes.now _ end.outside

pub returns-then-bytes-at-clause-joined : goal.returns-then-bytes-at-clause-joined
returns-then-bytes-at-clause-joined c = let end = returns-then-bytes-at-clause-end c in recoded_apart_there c.args.from c.args.bytes.now _ end.within end.outside

pub returns-then-bytes-at-clause-lossy : goal.returns-then-bytes-at-clause-lossy
returns-then-bytes-at-clause-lossy c = let end = returns-then-bytes-at-clause-end c in lossy_apart c.args.from c.args.bytes.now _ end.within end.outside
