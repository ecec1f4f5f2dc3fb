use Rattle.std.proofs.Common.{rules, ◌≡◌, IfSome}
use Rattle.recoding.specs.Rooms.{most_bytes}
use Rattle.recoding.proofs.BoundLemmas.{room_for_some}
use Rattle.recoding.proofs.rooms.room_for.Goals as goal

pub returns-clause-enough : goal.returns-clause-enough
returns-clause-enough c =
    let most : IfSome c.checked_mul.result (λ n. n ≡ most_bytes c.args.from c.args.to c.args.len) = search rules in
    room_for_some c.args.from c.args.to c.args.len c.checked_mul.result most
