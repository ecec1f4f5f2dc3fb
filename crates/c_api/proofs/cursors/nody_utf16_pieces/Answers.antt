use Rattle.std.proofs.Common.{arith}
use Rattle.c_api.specs.Api.{first_of_units}
use Rattle.c_api.proofs.Each.{fills_on, some_left}
use Rattle.c_api.proofs.cursors.nody_utf16_pieces.Goals as goal

pub loop-count-preserved : goal.loop-count-preserved
loop-count-preserved c =
    let gives = c.nody_utf16_next-piece.ensures in
    let has = c.if-piece-eq0.false in
    let some = some_left first_of_units c.loop-count.left.units.now _ _ gives (omega (arith, has)) in
    fills_on first_of_units _ c.loop-count.left.units.now _ _ _ c.loop-count.invariant (omega arith) some (gives.some some) (gives.leaves some)
