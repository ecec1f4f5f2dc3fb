use Rattle.std.proofs.Common.{◌-◌, refl, arith}
use Rattle.std.proofs.lemmas.List.{take_rest}
use Rattle.recoding.proofs.ShardEnds.{last_before_part, last_outside_parts, more_parts_end}
use Rattle.recoding.proofs.shards.utf8_end.Goals as goal

pub returns-then-at-place-clause-end : goal.returns-then-at-place-clause-end
returns-then-at-place-clause-end c =
    last_before_part c.args.bytes.now c.loop-place.place c.part_len.result c.args.at c.loop-place-test.true (omega arith)
    (rw (take_rest c.args.bytes.now c.loop-place.place) at c.part_len.ensures.part) c.if-at-place.true

pub loop-place-preserved : goal.loop-place-preserved
loop-place-preserved c =
    more_parts_end c.args.bytes.now (c.args.at - 3) c.loop-place.place c.args.at c.part_len.result (omega arith) c.loop-place.invariant
    (rw (take_rest c.args.bytes.now c.loop-place.place) at c.part_len.ensures.part) (omega arith)

pub returns-clause-end : goal.returns-clause-end
returns-clause-end c = last_outside_parts c.args.bytes.now (c.args.at - 3) c.args.at refl (λ p n a lo hi. c.loop-place.invariant p n a lo (omega arith))
