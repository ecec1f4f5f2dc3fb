use Rattle.std.proofs.Common.{◌<◌, get_or, arith, leb-true}
use Rattle.surveys.proofs.OrdinaryBytes.{ordinary_ascii_shown}
use Rattle.surveys.proofs.ordinary.OrdinaryAsciiBlockClass.has_all.Goals as goal

pub returns : goal.returns
returns c holds k ge lt =
    let inside : k < c.loop-byte.byte-index = omega arith in
    ordinary_ascii_shown (get_or c.args.bytes.now k 0) c.loop-byte.least (c.type_inv.bytes k).fits (c.loop-byte.invariant k inside) (leb-true _ _ holds)
