use Rattle.std.proofs.Common.{refl}
use Rattle.surveys.proofs.FedRare.{passed}
use Rattle.surveys.proofs.rare_counts.RareCounts.pass_unpaired.Goals as goal

pub returns : goal.returns
returns c = passed c.args.self.now _ c.args.part.now c.requires.class refl refl c.pass_unpaired.ensures c.pass_unpaired-2.ensures
