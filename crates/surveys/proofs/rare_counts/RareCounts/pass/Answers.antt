use Rattle.std.proofs.Common.{refl}
use Rattle.surveys.proofs.FedRare.{passed}
use Rattle.surveys.proofs.OrdinaryBytes.{ordinary_uncontrolled}
use Rattle.surveys.proofs.rare_counts.RareCounts.pass.Goals as goal

pub returns : goal.returns
returns c = passed c.args.self.now _ c.args.part.now (ordinary_uncontrolled c.args.part.now c.requires.ordinary) refl refl c.pass.ensures c.pass-2.ensures
