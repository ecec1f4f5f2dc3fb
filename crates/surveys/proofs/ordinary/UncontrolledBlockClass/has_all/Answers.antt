use Rattle.std.proofs.Common.{◌<◌, get_or, arith, ltb-true}
use Rattle.surveys.proofs.UncontrolledBytes.{uncontrolled_shown}
use Rattle.surveys.proofs.ordinary.UncontrolledBlockClass.has_all.Goals as goal

pub returns-then-least-ge26 : goal.returns-then-least-ge26
returns-then-least-ge26 c holds k ge lt =
    let inside : k < c.loop-byte.byte-index = omega arith in
    let sums = c.loop-byte.invariant k inside in
    uncontrolled_shown (get_or c.args.bytes.now k 0) c.loop-byte.least c.loop-byte.most (c.type_inv.bytes k).fits sums.0 sums.1 (omega arith) (ltb-true _ _ holds)
