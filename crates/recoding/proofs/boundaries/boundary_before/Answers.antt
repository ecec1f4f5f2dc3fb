use Rattle.recoding.proofs.LastBoundaries.{last_is_end}
use Rattle.recoding.proofs.RecodedLists.{recoded_apart}
use Rattle.recoding.proofs.boundaries.boundary_before.Goals as goal

pub returns-then-bytes-at-clause-end : goal.returns-then-bytes-at-clause-end
returns-then-bytes-at-clause-end c = last_is_end c.args.from c.args.bytes.now c.args.at c.if-bytes-at.true

pub returns-then-bytes-at-clause-joined : goal.returns-then-bytes-at-clause-joined
returns-then-bytes-at-clause-joined c =
    let end = returns-then-bytes-at-clause-end c in
    recoded_apart c.args.from c.args.bytes.now _ end.within end.outside
