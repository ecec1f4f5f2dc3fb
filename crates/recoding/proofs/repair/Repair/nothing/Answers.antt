use Rattle.recoding.proofs.TableCodes.{no_codes}
use Rattle.recoding.proofs.repair.Repair.nothing.Goals as goal

pub invariant_of-result : goal.invariant_of-result
invariant_of-result c = record { coded = no_codes }
