use Rattle.std.proofs.Common.{refl}
use Rattle.recoding.proofs.ShardEnds.{boundary_is_end, end_before_surrogate}
use Rattle.recoding.proofs.shards.units_end.Goals as goal
use Rattle.recoding.proofs.shards.units_end.Goals.{else-end-bytes-via-then-end-bytes+else-ends_in_leading_surrogate, else-end-bytes-via-else-end-bytes}

pub returns-then-ends_in_leading_surrogate-clause-end : goal.returns-then-ends_in_leading_surrogate-clause-end
returns-then-ends_in_leading_surrogate-clause-end g c =
    end_before_surrogate g.E.ByteOrder.HIGH_FIRST c.args.bytes.now c.args.at c.units_boundary-end.result c.requires c.units_boundary-end.ensures.end c.if-end-bytes.true
    (c.if-ends_in_leading_surrogate.ensures.some refl) (c.if-ends_in_leading_surrogate.ensures.yes refl)

pub returns-else-end-bytes-clause-end : goal.returns-else-end-bytes-clause-end
returns-else-end-bytes-clause-end g c =
    boundary_is_end g.E.ByteOrder.HIGH_FIRST c.args.bytes.now c.args.at c.units_boundary-end.result c.requires c.units_boundary-end.ensures.end
    (elim c.else-end-bytes.branch [
      | else-end-bytes-via-then-end-bytes+else-ends_in_leading_surrogate w ↦ λ odd two. w.if-ends_in_leading_surrogate.ensures.no refl two
      | else-end-bytes-via-else-end-bytes w ↦ λ odd two. absurd (w.if-end-bytes.false odd)
    ])
