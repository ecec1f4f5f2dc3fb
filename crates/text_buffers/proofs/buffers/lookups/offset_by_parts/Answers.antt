use Rattle.std.proofs.Common.{◌≡◌, ◌+◌, ◌-◌, length, take, drop, arith, ap, ◌∙◌}
use Rattle.std.proofs.lemmas.List.{take_rest}
use Rattle.encode_unicode.specs.Pieces.{pieces}
use Rattle.text_runs.proofs.NumberPlaces.{number_within}
use Rattle.text_runs.specs.PieceSteps.{IsCountedTo}
use Rattle.text_runs.proofs.StepLemmas.{counted_none, counted_on, found_in_step, none_found, not_none}
use Rattle.text_buffers.proofs.buffers.lookups.offset_by_parts.Goals as goal

pub loop-place-init : goal.loop-place-init
loop-place-init c = let none : c.args.number - c.args.number ≡ 0 = omega arith in (omega arith, rw none (counted_none c.args.bytes.now))

pub returns-then-left-count : goal.returns-then-left-count
returns-then-left-count c =
    let xs = c.args.bytes.now in
    let place = c.loop-place.place in
    let part = c.front_part-part.result.now in
    let told = c.front_part-part.ensures in
    let is : part ≡ take (length part) (drop place xs) = told.front ∙ ap (take (length part)) (take_rest xs place) in
    let ends = rw (take_rest xs place) at told.ends in
    let step : IsCountedTo (drop place xs) (length part) c.piece_count-count.result = record { within = ends.within; outside = ends.outside; counted = c.piece_count-count.ensures ∙ ap (λ ys. length (pieces ys)) is } in
    let (le, counted) = c.loop-place.invariant in
    found_in_step xs place (c.args.number - c.loop-place.left) counted _ _ step c.args.number c.loop-place.left c.in_ok-offset.offset (omega arith) c.if-left-count.true (rw is at c.in_ok-offset.ensures)

pub returns-in_err-offset : goal.returns-in_err-offset
returns-in_err-offset c =
    let lt = c.if-left-count.true in
    absurd (not_none c.front_part-part.result.now c.loop-place.left (omega (arith, c.piece_count-count.ensures)) c.in_err-offset.ensures)

pub loop-place-preserved : goal.loop-place-preserved
loop-place-preserved c =
    let xs = c.args.bytes.now in
    let place = c.loop-place.place in
    let left = c.loop-place.left in
    let more = c.piece_count-count.result in
    let part = c.front_part-part.result.now in
    let told = c.front_part-part.ensures in
    let is : part ≡ take (length part) (drop place xs) = told.front ∙ ap (take (length part)) (take_rest xs place) in
    let ends = rw (take_rest xs place) at told.ends in
    let step : IsCountedTo (drop place xs) (length part) more = record { within = ends.within; outside = ends.outside; counted = c.piece_count-count.ensures ∙ ap (λ ys. length (pieces ys)) is } in
    let (le, counted) = c.loop-place.invariant in
    let sum : c.args.number - left + more ≡ c.args.number - (left - more) = omega (arith, c.if-left-count.false) in
    (omega arith, rw sum at (counted_on xs place (c.args.number - left) counted _ _ step))

pub returns : goal.returns
returns c =
    let (le, counted) = c.loop-place.invariant in
    none_found c.args.bytes.now c.loop-place.place (c.args.number - c.loop-place.left) c.args.number counted (omega (arith, c.loop-place-test.false)) (omega arith)

pub overflow_add-result : goal.overflow_add-result
overflow_add-result c =
    let within = number_within c.args.bytes.now c.args.number _ (returns-then-left-count c) in
    omega arith
