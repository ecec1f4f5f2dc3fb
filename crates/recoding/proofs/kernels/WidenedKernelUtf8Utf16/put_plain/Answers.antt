use Rattle.recoding.proofs.Recodes.{Recodes-none}
use Rattle.recoding.proofs.kernels.WidenedKernelUtf8Utf16.put_plain.Goals as goal

pub returns-in-Faults : goal.returns-in-Faults
returns-in-Faults g c = rw c.in-Faults.is c.widen_plain.ensures

pub returns-in-Subparts : goal.returns-in-Subparts
returns-in-Subparts g c = rw c.in-Subparts.is c.widen_plain-in-Subparts.ensures

pub returns-in-Table : goal.returns-in-Table
returns-in-Table g c = Recodes-none g.met.O.Output.appends_none
