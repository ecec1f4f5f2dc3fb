use Rattle.std.proofs.Common.{refl, lit<, inl, inr}
use Rattle.std.proofs.lemmas.Bool.{cases_lt}
use Rattle.utf_lanes.proofs.LaneLemmas.{none_differs, first_differs, differs_first}
use Rattle.utf_lanes.proofs.text_blocks.first_fault.Goals as goal

pub returns-then-wrong-eq0-clause-none : goal.returns-then-wrong-eq0-clause-none
returns-then-wrong-eq0-clause-none c = none_differs c.args.faults (lit< tt) c.fits-faults.0 c.if-wrong-eq0.true

pub returns-else-wrong-eq0-clause-most : goal.returns-else-wrong-eq0-clause-most
returns-else-wrong-eq0-clause-most c = (first_differs c.args.faults (lit< tt) c.fits-faults.0 _ c.if-wrong-eq0.false refl).0

pub returns-else-wrong-eq0-clause-none : goal.returns-else-wrong-eq0-clause-none
returns-else-wrong-eq0-clause-none c = (first_differs c.args.faults (lit< tt) c.fits-faults.0 _ c.if-wrong-eq0.false refl).1

pub returns-else-wrong-eq0-clause-all : goal.returns-else-wrong-eq0-clause-all
returns-else-wrong-eq0-clause-all c n few zero =
    let first = differs_first c.args.faults (lit< tt) c.fits-faults.0 _ c.if-wrong-eq0.false refl in
    elim (cases_lt _ n) [ inr ge ↦ ge | inl lt ↦ absurd (first.1 (zero _ lt)) ]
