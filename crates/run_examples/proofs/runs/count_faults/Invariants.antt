use Rattle.std.proofs.Common.{◌≡◌, ◌≤◌}
use Rattle.cuts.specs.ForwardRuns.{faulty_item_count}
use Rattle.cuts.proofs.ForwardRuns.{IsRunSoFar}
use Rattle.run_examples.proofs.runs.count_faults.Given as goal

abbrev pub invariant-loop-item : goal.invariant-loop-item
invariant-loop-item l = record {
  run : IsRunSoFar l.bytes l.yielded l.item-iterator;
  counted : l.faults ≡ faulty_item_count l.yielded;
  few : l.faults ≤ l.item-iterator.front;
}
