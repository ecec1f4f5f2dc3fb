use Rattle.std.proofs.Common.{◌≡◌, drop, false}
use Rattle.cuts.proofs.ForwardRuns.{IsRunSoFar}
use Rattle.run_examples.specs.Strings.{string_end}
use Rattle.run_examples.proofs.strings.closing_quote.Given as goal

abbrev pub invariant-loop-place : goal.invariant-loop-place
invariant-loop-place l = record {
  run : IsRunSoFar l.bytes l.yielded l.place-iterator;
  left : string_end false 0 l.bytes ≡ string_end l.escaped l.place-iterator.front (drop l.place-iterator.front l.bytes);
}
