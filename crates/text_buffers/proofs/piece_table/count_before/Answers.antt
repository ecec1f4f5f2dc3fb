use Rattle.std.proofs.Common.{ltb, rules}
use Rattle.std.proofs.lemmas.List.Sorted.{IsPartitionPoint-from_clause, IsPartitionedBy-ltb}
use Rattle.encode_unicode.specs.Window.{Item}
use Rattle.text_buffers.proofs.TableRuns.{IsSplitAt-from_point}
use Rattle.text_buffers.proofs.piece_table.count_before.Goals as goal

pub returns : goal.returns
returns c =
    let parted = IsPartitionedBy-ltb (λ (x : Item). x.0) _ c.args.place c.requires in
    let point = IsPartitionPoint-from_clause (λ (x : Item). ltb x.0 c.args.place) _ _ c.partition_point.ensures.partitioned parted (λ a r q k. search rules) in
    IsSplitAt-from_point _ _ _ c.partition_point.ensures.bound point
