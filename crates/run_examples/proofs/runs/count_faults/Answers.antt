use Rattle.std.proofs.Common.{◌<◌, arith}
use Rattle.std.proofs.lemmas.Grind.{common_steps}
use Rattle.cuts.proofs.ForwardRuns.{IsRunSoFar-push, item_some}
use Rattle.run_examples.proofs.runs.count_faults.Goals as goal

pub loop-item-preserved-then-is_err : goal.loop-item-preserved-then-is_err
loop-item-preserved-then-is_err c =
    let run = c.loop-item.invariant.run in
    let shorter : c.loop-item.item-iterator.front < c.next.new.self.front = item_some run c.in-Some.ensures.steps in
    record { run = IsRunSoFar-push run c.in-Some.ensures.steps; counted = grind (arith, common_steps); few = omega arith }

pub loop-item-preserved : goal.loop-item-preserved
loop-item-preserved c =
    let run = c.loop-item.invariant.run in
    let shorter : c.loop-item.item-iterator.front < c.next.new.self.front = item_some run c.in-Some.ensures.steps in
    record { run = IsRunSoFar-push run c.in-Some.ensures.steps; counted = grind (arith, common_steps); few = omega arith }
