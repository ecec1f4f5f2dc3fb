use Rattle.recoding.proofs.JoinedShards.{repaired_shards_join, shards_join}
use Rattle.recoding.proofs.LossyShards.{lossy_shards_join, shard_ends_are_boundaries}
use Rattle.recoding.proofs.StrictShards.{strict_shards_join}
use Rattle.recoding.proofs.laws.shards_join.Goals as goal

pub returns-clause-boundaries : goal.returns-clause-boundaries
returns-clause-boundaries c = shard_ends_are_boundaries

pub returns-clause-strict : goal.returns-clause-strict
returns-clause-strict c = strict_shards_join

pub returns-clause-faults : goal.returns-clause-faults
returns-clause-faults c = shards_join

pub returns-clause-table : goal.returns-clause-table
returns-clause-table c = repaired_shards_join

pub returns-clause-subparts : goal.returns-clause-subparts
returns-clause-subparts c = lossy_shards_join
