use Rattle.std.proofs.Common.{◌≡◌, ◌+◌, ◌-◌, arith, ltb-true}
use Rattle.surveys.proofs.TwiceWindows.{none_after}
use Rattle.surveys.proofs.twice_counts.has_none_surely.Goals as goal

pub returns-clause-none : goal.returns-clause-none
returns-clause-none c holds k lt =
    let place = c.args.place in
    let width : place + 256 + 5 - (place + 3) ≡ 258 = omega arith in
    none_after c.args.bytes.now place c.most_after_lead.result (omega arith) (rw width at c.most_after_lead.ensures) (ltb-true _ _ holds) k lt
