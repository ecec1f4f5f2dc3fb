use Rattle.recoding.proofs.TableCodes.{windows_1252_codes}
use Rattle.recoding.proofs.repair.Repair.windows_1252.Goals as goal

pub invariant_of-result : goal.invariant_of-result
invariant_of-result c = record { coded = windows_1252_codes }
