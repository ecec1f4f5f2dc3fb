use Rattle.std.proofs.Common.{◌≡◌, ◌+◌, ◌-◌, drop, arith, length-drop, length-take}
use Rattle.surveys.proofs.rare_counts.has_uncontrolled.Goals as goal

pub returns-then-bytes-place-ge-BLOCK-clause-class : goal.returns-then-bytes-place-ge-BLOCK-clause-class
returns-then-bytes-place-ge-BLOCK-clause-class c holds k ge lt =
    let place = c.args.place in
    let rest = drop place c.args.bytes.now in
    let width : place + 3074 - place ≡ 3074 = omega arith in
    let block = rw width at (c.has_all.ensures holds) in
    block k ge (omega (arith, length-take 3074 rest, length-drop place c.args.bytes.now, c.if-bytes-place-ge-BLOCK.true))
