use Rattle.std.proofs.Common.{rules}
use Rattle.examples.specs.Needles.{StandsAt}
use Rattle.examples.proofs.NeedleLemmas.{own_pieces}
use Rattle.examples.proofs.needles.find_ascii.Goals as goal

pub returns-then-eq-clause-pieces : goal.returns-then-eq-clause-pieces
returns-then-eq-clause-pieces c =
    let there : StandsAt c.args.bytes.now c.args.needle.now c.loop-place.place = search rules in
    own_pieces c.ascii_stands_alone.ensures _ _ _ c.requires there
