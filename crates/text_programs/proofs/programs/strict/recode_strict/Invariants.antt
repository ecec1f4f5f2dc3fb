use Rattle.std.proofs.Common.{◌≡◌, ◌≤◌, false, length}
use Rattle.text_runs.specs.Failures.{NoFailedRead, NoReadAfterEnd}
use Rattle.text_programs.proofs.StrictRelays.{IsTextRelayed}
use Rattle.text_programs.proofs.programs.strict.recode_strict.Given as goal

abbrev pub invariant-loop : goal.invariant-loop
invariant-loop g l = record {
  relayed : IsTextRelayed l.fn.from l.fn.to (g.R.Read.remaining l.fn.input.inner) (g.R.Read.remaining l.input.inner)
      (g.W.Write.contents l.fn.out.inner) (g.W.Write.contents l.out.inner) l.fn.input.failures l.input.failures l.counter l.reading.recoder l.reading.count;
  part : length l.part ≡ 16384;
  room : length l.room ≡ 32774;
  never_fewer : l.fn.input.failures ≤ l.input.failures;
  quiet : l.out.failures ≡ l.fn.out.failures;
  unbroken : NoFailedRead l.fn.input.reads l.input.reads;
  unended : l.fn.input.reads.ended ≡ false → l.input.reads.ended ≡ false;
  in_time : NoReadAfterEnd l.fn.input.reads l.input.reads;
  other_calls : l.out.other_calls ≡ l.fn.out.other_calls;
}
