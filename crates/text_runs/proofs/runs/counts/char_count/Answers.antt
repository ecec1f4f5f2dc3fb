use Rattle.std.proofs.Common.{arith, drop}
use Rattle.std.proofs.lemmas.List.{take_rest}
use Rattle.text_runs.specs.PieceSteps.{IsPieceStep}
use Rattle.text_runs.proofs.StepLemmas.{counted_few, counted_none, counted_on}
use Rattle.text_runs.proofs.runs.counts.char_count.Goals as goal

pub loop-place-init : goal.loop-place-init
loop-place-init c = counted_none c.args.bytes.now

pub loop-place-preserved : goal.loop-place-preserved
loop-place-preserved c =
    let xs = c.args.bytes.now in
    let place = c.loop-place.place in
    let step : IsPieceStep (drop place xs) c.next_step-step.result = rw (take_rest xs place) at c.next_step-step.ensures.step in
    counted_on xs place c.loop-place.count c.loop-place.invariant _ _ step.all

pub overflow_add-count : goal.overflow_add-count
overflow_add-count c =
    let few = counted_few _ _ _ (loop-place-preserved c) in
    omega arith
