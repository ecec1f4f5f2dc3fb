use Rattle.recoding.proofs.Earliest.{nothing_comes_earlier}
use Rattle.recoding.proofs.laws.nothing_comes_earlier.Goals as goal

pub returns : goal.returns
returns c = nothing_comes_earlier
