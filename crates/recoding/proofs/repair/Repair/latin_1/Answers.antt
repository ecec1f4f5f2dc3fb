use Rattle.recoding.proofs.TableCodes.{latin_1_codes}
use Rattle.recoding.proofs.repair.Repair.latin_1.Goals as goal

pub invariant_of-result : goal.invariant_of-result
invariant_of-result c = record { coded = latin_1_codes }
