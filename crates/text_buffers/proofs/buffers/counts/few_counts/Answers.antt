use Rattle.std.proofs.Common.{◌≡◌, length, take, drop, arith, refl, ap, ◌∙◌}
use Rattle.std.proofs.lemmas.List.{take_all, take_rest}
use Rattle.encode_unicode.specs.Pieces.{pieces}
use Rattle.text_buffers.specs.Counts.{counts_of}
use Rattle.text_runs.specs.ForwardRuns.{faulty_item_count}
use Rattle.text_runs.specs.PieceSteps.{IsPieceStep}
use Rattle.text_buffers.proofs.CountLemmas.{same_counts}
use Rattle.text_runs.proofs.StepLemmas.{counted_few, counted_none, counted_on, faults_few, faults_none, faults_on}
use Rattle.text_buffers.proofs.buffers.counts.few_counts.Goals as goal

pub loop-place-init : goal.loop-place-init
loop-place-init c = (counted_none c.args.bytes.now, faults_none c.args.bytes.now)

pub loop-place-preserved : goal.loop-place-preserved
loop-place-preserved c =
    let xs = c.args.bytes.now in
    let place = c.loop-place.place in
    let (counted, faults) = c.loop-place.invariant in
    let step : IsPieceStep (drop place xs) c.piece_step-step.result = rw (take_rest xs place) at c.piece_step-step.ensures.step in
    (counted_on xs place c.loop-place.pieces counted _ _ step.all, faults_on xs place c.loop-place.pieces counted _ _ step.all c.loop-place.faults _ faults step.faults)

pub overflow_add-pieces : goal.overflow_add-pieces
overflow_add-pieces c =
    let xs = c.args.bytes.now in
    let place = c.loop-place.place in
    let step : IsPieceStep (drop place xs) c.piece_step-step.result = rw (take_rest xs place) at c.piece_step-step.ensures.step in
    let few = counted_few xs _ _ (counted_on xs place c.loop-place.pieces c.loop-place.invariant.0 _ _ step.all) in
    omega arith

pub overflow_add-faults : goal.overflow_add-faults
overflow_add-faults c =
    let few = faults_few _ _ _ _ (loop-place-preserved c).0 (loop-place-preserved c).1 in
    omega arith

pub returns : goal.returns
returns c =
    let xs = c.args.bytes.now in
    let (counted, faults) = c.loop-place.invariant in
    let whole : take c.loop-place.place xs ≡ xs = take_all c.loop-place.place xs (omega (arith, c.loop-place-test.false)) in
    same_counts _ (counts_of xs) refl (counted.counted ∙ ap (λ ys. length (pieces ys)) whole) (faults ∙ ap (λ ys. faulty_item_count (pieces ys)) whole) c.part_feeds.ensures
