use Rattle.std.proofs.Common.{eqb-true, eq-eqb}
use Rattle.utf_lanes.proofs.UnitPairs.{block_pairs, pairs_block}
use Rattle.utf_lanes.proofs.unit_blocks.all_pair.Goals as goal

pub returns-clause-paired : goal.returns-clause-paired
returns-clause-paired c high us i block holds = block_pairs high us i block (eqb-true _ _ holds)

pub returns-clause-all : goal.returns-clause-all
returns-clause-all c high us i block pairs = eq-eqb _ _ (pairs_block high us i block pairs)
