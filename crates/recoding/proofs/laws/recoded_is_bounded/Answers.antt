use Rattle.recoding.proofs.BoundLemmas.{recoded_bound}
use Rattle.recoding.proofs.EnoughRoom.{lossy_is_bounded, recoded_is_short}
use Rattle.recoding.proofs.laws.recoded_is_bounded.Goals as goal

pub returns : goal.returns
returns c = record { recoded = recoded_bound; plain = recoded_is_short; lossy = lossy_is_bounded }
