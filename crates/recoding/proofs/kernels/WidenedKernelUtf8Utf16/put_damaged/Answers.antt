use Rattle.recoding.proofs.MendedRuns.{Recodes-part}
use Rattle.recoding.proofs.Recodes.{Recodes-none}
use Rattle.recoding.proofs.kernels.WidenedKernelUtf8Utf16.put_damaged.Goals as goal

pub returns-then-most-lt-LEAST : goal.returns-then-most-lt-LEAST
returns-then-most-lt-LEAST g c = Recodes-none g.met.O.Output.appends_none

pub returns-in-Faults : goal.returns-in-Faults
returns-in-Faults g c = rw c.in-Faults.is (Recodes-part c.most_widened-most.result c.most_widened-most.ensures.within c.widen_damaged.ensures)

pub returns-in-Subparts : goal.returns-in-Subparts
returns-in-Subparts g c = rw c.in-Subparts.is (Recodes-part c.most_widened-most.result c.most_widened-most.ensures.within c.widen_damaged-in-Subparts.ensures)

pub returns-in-Some : goal.returns-in-Some
returns-in-Some g c =
    let same = rw c.in-Some.is at c.coded.ensures in
    rw c.in-Table.is (rw same at (Recodes-part c.most_widened-most.result c.most_widened-most.ensures.within c.widen_damaged-in-Some.ensures))

pub returns-in-None : goal.returns-in-None
returns-in-None g c = rw c.in-Table.is (Recodes-part c.most_widened-most.result c.most_widened-most.ensures.within c.widen_damaged-in-None.ensures)
