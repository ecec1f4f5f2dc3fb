use Rattle.std.proofs.Common.{◌≡◌, ◌*◌, ◌/◌, ◌<◌, length, arith, refl}
use Rattle.surveys.proofs.OrdinaryBytes.{skips, skips-odd}
use Rattle.surveys.proofs.unit_counts.UnitParts.skip.Goals as goal

pub returns-in-None : goal.returns-in-None
returns-in-None g c later =
    let part = c.args.part.now in
    let even : length part ≡ 2 * (length part / 2) = omega (arith, c.requires.even) in
    skips g.E.ByteOrder.HIGH_FIRST c.args.self.now (length part / 2) part later even c.requires.ordinary c.requires.after c.in-None.is

pub returns-in-Some : goal.returns-in-Some
returns-in-Some g c later =
    let part = c.args.part.now in
    let even : length part ≡ 2 * (length part / 2) = omega (arith, c.requires.even) in
    let some : 0 < length part / 2 = omega (arith, c.requires.even, c.requires.some) in
    skips-odd g.E.ByteOrder.HIGH_FIRST c.args.self.now _ _ (length part / 2) part later even some c.requires.ordinary c.requires.after c.in-Some.is refl refl refl
