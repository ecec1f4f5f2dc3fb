use Rattle.std.proofs.Common.{◌≡◌, ◌≤◌, take}
use Rattle.text_programs.proofs.LineLemmas.{HoldsLines}
use Rattle.text_programs.proofs.programs.entries.write_entries.Given as goal

abbrev pub invariant-loop-entry : goal.invariant-loop-entry
invariant-loop-entry g l = record {
  held : HoldsLines g.T.Entry.line g.T.Entry.wrong (take l.entry-index l.entries) (g.W.Write.contents l.fn.out.inner) (g.W.Write.contents l.out.inner) l.lines l.faults;
  few : l.faults ≤ l.entry-index;
  quiet : l.out.failures ≡ l.fn.out.failures;
  stalls : l.out.stalls ≡ l.fn.out.stalls;
  other_calls : l.out.other_calls ≡ l.fn.out.other_calls;
}
