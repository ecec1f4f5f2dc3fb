use Rattle.recoding.proofs.LossyLists.{lossy_parts_are_one}
use Rattle.recoding.proofs.laws.lossy_parts_are_one_part.Goals as goal

pub returns : goal.returns
returns c = lossy_parts_are_one
