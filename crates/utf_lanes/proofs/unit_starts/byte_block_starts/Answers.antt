use Rattle.utf_lanes.proofs.UnitBytePairs.{block_told}
use Rattle.utf_lanes.proofs.unit_starts.byte_block_starts.Goals as goal

pub overflow_sub-result : goal.overflow_sub-result
overflow_sub-result g c =
    (block_told g.E.ByteOrder.HIGH_FIRST c.args.bytes.now c.type_inv.bytes c.args.place c.requires.start c.requires.within c.block_pairs.result (rw (← c.high_place.ensures) c.block_pairs.ensures.pairs)).0

pub returns-clause-starts : goal.returns-clause-starts
returns-clause-starts g c =
    (block_told g.E.ByteOrder.HIGH_FIRST c.args.bytes.now c.type_inv.bytes c.args.place c.requires.start c.requires.within c.block_pairs.result (rw (← c.high_place.ensures) c.block_pairs.ensures.pairs)).1
