use Rattle.recoding.proofs.LossyLists.{lossy_joins_faults, lossy_units_are_recoded, text_is_lossy}
use Rattle.recoding.proofs.laws.lossy_joins_faults.Goals as goal

pub returns : goal.returns
returns c = record { joins = lossy_joins_faults; units = lossy_units_are_recoded; text = text_is_lossy }
