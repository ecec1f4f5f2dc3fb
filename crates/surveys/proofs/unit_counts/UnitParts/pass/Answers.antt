use Rattle.std.proofs.Common.{arith}
use Rattle.surveys.proofs.OrdinaryBytes.{ordinary_drop}
use Rattle.surveys.proofs.Fronts.{rest_from}
use Rattle.surveys.proofs.unit_counts.UnitParts.pass.Goals as goal

pub skip-requires-clause-ordinary : goal.skip-requires-clause-ordinary
skip-requires-clause-ordinary g c = rw (rest_from c.args.part.now 4 (omega (arith, c.requires.some))) (ordinary_drop 4 c.args.part.now c.requires.ordinary)
