use Rattle.std.proofs.Common.{◌≡◌, ◌+◌, ◌-◌, length, arith}
use Rattle.surveys.proofs.twice_counts.ends_with_none.Goals as goal

pub returns : goal.returns
returns c holds k within =
    let place = c.args.place in
    let start = length c.args.bytes.now - 80 in
    let at : start + (place + k - start) ≡ place + k = omega arith in
    rw at at (c.has_none.ensures.none holds (place + k - start) (omega arith))
