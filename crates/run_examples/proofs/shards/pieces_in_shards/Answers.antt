use Rattle.std.proofs.Common.{[], ◌∷◌, ap₂, arith, ◌∙◌, ◌+◌}
use Rattle.std.proofs.lemmas.List.{take_rest}
use Rattle.std.proofs.lemmas.Slice.{between_from_start}
use Rattle.run_examples.proofs.shards.pieces_in_shards.Goals as goal

pub returns : goal.returns
returns c =
    let bytes = c.args.bytes.now in
    let place = c.shard_end-end.result in
    let end = c.shard_end-end.ensures.end in
    let sum = rw (between_from_start bytes place) at (c.shard_counts_add.ensures.pieces bytes (place ∷ []) (omega arith, c.shard_end-end.ensures.boundary, end.within)) in
    let rest = rw (take_rest bytes place) at c.char_count-2.ensures in
    ap₂ (λ a b. a + b) c.char_count.ensures rest ∙ sum
