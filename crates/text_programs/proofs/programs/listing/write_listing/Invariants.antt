use Rattle.std.proofs.Common.{◌≡◌}
use Rattle.text_programs.proofs.ListingLemmas.{IsListedSoFar}
use Rattle.text_programs.proofs.programs.listing.write_listing.Given as goal

abbrev pub invariant-loop-item : goal.invariant-loop-item
invariant-loop-item g l = record {
  listed : IsListedSoFar l.src (g.W.Write.contents l.fn.out.inner) (g.W.Write.contents l.out.inner) l.lines l.faults l.item-iterator;
  offset : l.offset ≡ l.item-iterator.front;
  quiet : l.out.failures ≡ l.fn.out.failures;
  stalls : l.out.stalls ≡ l.fn.out.stalls;
  other_calls : l.out.other_calls ≡ l.fn.out.other_calls;
}
