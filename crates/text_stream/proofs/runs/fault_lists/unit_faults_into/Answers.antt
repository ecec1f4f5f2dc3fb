use Rattle.std.proofs.Common.{◌∙◌, ap, arith}
use Rattle.utf_base.specs.Decoded.{decoded_pairs}
use Rattle.encode_unicode.proofs.ForCallers.{some_units}
use Rattle.text_runs.proofs.FaultLemmas.{front_fits, front_known, front_none, front_some, text_at_front, text_fits, text_known}
use Rattle.text_stream.proofs.FoundFaults.{finds_all, finds_full, so_far_fault, so_far_front, so_far_text, unit_faults_are}
use Rattle.text_stream.proofs.runs.fault_lists.unit_faults_into.Goals as goal

pub loop-answer-init : goal.loop-answer-init
loop-answer-init g c =
    let xs = c.args.units.now in
    so_far_front _ decoded_pairs some_units xs _ _ c.units_valid_up_to-place.ensures.within (text_at_front decoded_pairs xs _ c.units_valid_up_to-place.ensures.value)

pub loop-answer-preserved-in-Ok : goal.loop-answer-preserved-in-Ok
loop-answer-preserved-in-Ok g c =
    let xs = c.args.units.now in
    let at = c.loop-answer in
    let steps = c.in-Some.ensures.steps in
    let known = front_known decoded_pairs xs at.place _ _ _ c.from.ensures steps.known in
    so_far_text _ decoded_pairs some_units xs _ _ _ _ _ _ _ at.invariant (front_some xs at.place _ c.from.ensures steps.some) (front_fits _ xs at.place _ _ c.from.ensures steps.len) (known ∙ ap (λ r. (r, c.in-Some.len)) c.in-Ok.is)
    (text_fits xs _ _ c.units_valid_up_to.ensures.within) (text_known decoded_pairs xs _ _ c.units_valid_up_to.ensures.value)

pub returns-then-written-room-clause-finds : goal.returns-then-written-room-clause-finds
returns-then-written-room-clause-finds g c =
    let xs = c.args.units.now in
    let at = c.loop-answer in
    let steps = c.in-Some.ensures.steps in
    let known = front_known decoded_pairs xs at.place _ _ _ c.from.ensures steps.known in
    rw c.fed.ensures
    (finds_full _ decoded_pairs some_units xs _ _ unit_faults_are _ _ _ _ _ at.invariant (front_some xs at.place _ c.from.ensures steps.some) (known ∙ ap (λ r. (r, c.in-Some.len)) c.in-Err.is) c.if-written-room.true)

pub loop-answer-preserved : goal.loop-answer-preserved
loop-answer-preserved g c =
    let xs = c.args.units.now in
    let at = c.loop-answer in
    let steps = c.in-Some.ensures.steps in
    let known = front_known decoded_pairs xs at.place _ _ _ c.from.ensures steps.known in
    let len = at.invariant.len in
    let fits = at.invariant.fits in
    let room = c.if-written-room.false in
    so_far_fault _ decoded_pairs some_units xs _ _ _ _ _ _ _ at.invariant (front_some xs at.place _ c.from.ensures steps.some) (known ∙ ap (λ r. (r, c.in-Some.len)) c.in-Err.is) (front_fits _ xs at.place _ _ c.from.ensures steps.len)
    (omega arith) c.from_fault.ensures

pub returns-clause-finds : goal.returns-clause-finds
returns-clause-finds g c =
    let xs = c.args.units.now in
    let at = c.loop-answer in
    rw c.fed-2.ensures (finds_all _ decoded_pairs some_units xs _ _ unit_faults_are _ _ _ at.invariant (front_none xs at.place _ c.from.ensures c.in_default.ensures.steps.none))
