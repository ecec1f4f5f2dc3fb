use Rattle.surveys.proofs.FedUnits.{units_from-none}
use Rattle.surveys.proofs.unit_counts.UnitParts.counts.Goals as goal

pub returns : goal.returns
returns c = units_from-none c.args.self.now.counts _ c.args.self.now.before c.whole.ensures c.whole-2.ensures c.whole-3.ensures
