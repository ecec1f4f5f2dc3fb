use Rattle.std.proofs.Common.{◌≡◌, ◌+◌, ◌-◌, drop, arith}
use Rattle.std.proofs.lemmas.List.{take_rest}
use Rattle.text_runs.specs.PieceSteps.{IsPieceStep}
use Rattle.text_runs.proofs.NumberPlaces.{number_within}
use Rattle.text_runs.proofs.StepLemmas.{counted_none, counted_on, found_in_step, none_found}
use Rattle.text_runs.proofs.runs.numbers.offset_of.Goals as goal

pub loop-place-init : goal.loop-place-init
loop-place-init c = let none : c.args.number - c.args.number ≡ 0 = omega arith in (omega arith, rw none (counted_none c.args.bytes.now))

pub returns-then-left-step : goal.returns-then-left-step
returns-then-left-step c =
    let xs = c.args.bytes.now in
    let place = c.loop-place.place in
    let left = c.loop-place.left in
    let n = c.next_step-step.result.len in
    let (le, counted) = c.loop-place.invariant in
    let step : IsPieceStep (drop place xs) c.next_step-step.result = rw (take_rest xs place) at c.next_step-step.ensures.step in
    let width : place + n - place ≡ n = omega arith in
    found_in_step xs place (c.args.number - left) counted n c.next_step-step.result.pieces step.all c.args.number left c.offset_in_step-offset.result (omega arith) c.if-left-step.true (rw width at c.offset_in_step-offset.ensures)

pub loop-place-preserved : goal.loop-place-preserved
loop-place-preserved c =
    let xs = c.args.bytes.now in
    let place = c.loop-place.place in
    let left = c.loop-place.left in
    let more = c.next_step-step.result.pieces in
    let (le, counted) = c.loop-place.invariant in
    let step : IsPieceStep (drop place xs) c.next_step-step.result = rw (take_rest xs place) at c.next_step-step.ensures.step in
    let sum : c.args.number - left + more ≡ c.args.number - (left - more) = omega (arith, c.if-left-step.false) in
    (omega arith, rw sum at (counted_on xs place (c.args.number - left) counted _ _ step.all))

pub returns : goal.returns
returns c =
    let (le, counted) = c.loop-place.invariant in
    none_found c.args.bytes.now c.loop-place.place (c.args.number - c.loop-place.left) c.args.number counted (omega (arith, c.loop-place-test.false)) (omega arith)

pub overflow_add-result : goal.overflow_add-result
overflow_add-result c =
    let within = number_within c.args.bytes.now c.args.number _ (returns-then-left-step c) in
    omega arith
