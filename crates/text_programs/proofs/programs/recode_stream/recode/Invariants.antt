use Rattle.std.proofs.Common.{◌≡◌, ◌≤◌, [], Some, false}
use Rattle.text_runs.specs.Failures.{NoFailedRead, NoReadAfterEnd}
use Rattle.text_programs.proofs.Relays.{IsRelayed}
use Rattle.text_programs.proofs.programs.recode_stream.recode.Given as goal

abbrev pub invariant-loop : goal.invariant-loop
invariant-loop g l = record {
  empty : l.recoded.items ≡ [];
  relayed : IsRelayed l.fn.from l.fn.to (g.R.Read.remaining l.fn.input.inner) (g.R.Read.remaining l.input.inner)
      (g.W.Write.contents l.fn.out.inner) (g.W.Write.contents l.out.inner) l.fn.input.failures l.input.failures l.counter l.recoder;
  never_fewer : l.fn.input.failures ≤ l.input.failures;
  quiet : l.out.failures ≡ l.fn.out.failures;
  unbroken : NoFailedRead l.fn.input.reads l.input.reads;
  unended : l.fn.input.reads.ended ≡ false → l.input.reads.ended ≡ false;
  in_time : NoReadAfterEnd l.fn.input.reads l.input.reads;
  drained : g.R.Read.remaining l.fn.input.inner ≡ Some [] → g.R.Read.remaining l.input.inner ≡ Some [];
  unheld : g.R.Read.remaining l.fn.input.inner ≡ Some [] → l.recoder.held ≡ [];
  other_calls : l.out.other_calls ≡ l.fn.out.other_calls;
}
