use Rattle.recoding.proofs.LossyLists.{lossy_is_one}
use Rattle.recoding.proofs.laws.lossy_once.Goals as goal

pub returns : goal.returns
returns c = lossy_is_one
