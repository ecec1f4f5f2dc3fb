use Rattle.std.proofs.Common.{◌∙◌, ap, arith}
use Rattle.utf_base.specs.Decoded.{decoded}
use Rattle.encode_unicode.proofs.ForCallers.{some_bytes}
use Rattle.text_runs.proofs.FaultLemmas.{front_fits, front_known, front_none, front_some, text_at_front, text_fits, text_known, faults_are}
use Rattle.text_stream.proofs.FoundFaults.{finds_all, finds_full, so_far_fault, so_far_from, so_far_front, so_far_text}
use Rattle.text_stream.proofs.WindowFaults.{fault_known}
use Rattle.text_stream.proofs.runs.fault_lists.faults_into.Goals.{then-bytes-place-ge-LEAST+else-done, else-bytes-place-ge-LEAST}
use Rattle.text_stream.proofs.runs.fault_lists.faults_into.Goals as goal

pub loop-answer-init : goal.loop-answer-init
loop-answer-init g c =
    let xs = c.args.bytes.now in
    let text = text_at_front decoded xs _ c.valid_up_to-place.ensures.value in
    elim c.if-bytes-place-ge-LEAST.branch [
      | then-bytes-place-ge-LEAST+else-done w ↦ rw (w.place-is, w.written-is, w.room-is) (so_far_from _ decoded some_bytes xs _ _ _ _ _ text w.window_faults-done.ensures.so_far)
      | else-bytes-place-ge-LEAST w ↦ rw (w.place-is, w.written-is, w.room-is) (so_far_front _ decoded some_bytes xs _ _ c.valid_up_to-place.ensures.within text)
    ]

pub returns-then-done-clause-finds : goal.returns-then-done-clause-finds
returns-then-done-clause-finds g c =
    let xs = c.args.bytes.now in
    let done = c.window_faults-done.ensures in
    let stops = done.stops c.if-done.true in
    let so_far = so_far_from _ decoded some_bytes xs _ _ _ _ _ (text_at_front decoded xs _ c.valid_up_to-place.ensures.value) done.so_far in
    let full = done.full c.if-done.true in
    let len = done.so_far.len in
    finds_full _ decoded some_bytes xs _ _ faults_are _ _ _ 1 stops.0 so_far (done.more c.if-done.true) (fault_known _ _ stops.1) (omega arith)

pub loop-answer-preserved-in-Ok : goal.loop-answer-preserved-in-Ok
loop-answer-preserved-in-Ok g c =
    let xs = c.args.bytes.now in
    let at = c.loop-answer in
    let steps = c.in-Some.ensures.steps in
    let known = front_known decoded xs at.place _ _ _ c.from.ensures steps.known in
    so_far_text _ decoded some_bytes xs _ _ _ _ _ _ _ at.invariant (front_some xs at.place _ c.from.ensures steps.some) (front_fits _ xs at.place _ _ c.from.ensures steps.len) (known ∙ ap (λ r. (r, c.in-Some.len)) c.in-Ok.is)
    (text_fits xs _ _ c.valid_up_to.ensures.within) (text_known decoded xs _ _ c.valid_up_to.ensures.value)

pub returns-then-written-room-clause-finds : goal.returns-then-written-room-clause-finds
returns-then-written-room-clause-finds g c =
    let xs = c.args.bytes.now in
    let at = c.loop-answer in
    let steps = c.in-Some.ensures.steps in
    let known = front_known decoded xs at.place _ _ _ c.from.ensures steps.known in
    rw c.fed.ensures
    (finds_full _ decoded some_bytes xs _ _ faults_are _ _ _ _ _ at.invariant (front_some xs at.place _ c.from.ensures steps.some) (known ∙ ap (λ r. (r, c.in-Some.len)) c.in-Err.is) c.if-written-room.true)

pub loop-answer-preserved : goal.loop-answer-preserved
loop-answer-preserved g c =
    let xs = c.args.bytes.now in
    let at = c.loop-answer in
    let steps = c.in-Some.ensures.steps in
    let known = front_known decoded xs at.place _ _ _ c.from.ensures steps.known in
    let len = at.invariant.len in
    let fits = at.invariant.fits in
    let room = c.if-written-room.false in
    so_far_fault _ decoded some_bytes xs _ _ _ _ _ _ _ at.invariant (front_some xs at.place _ c.from.ensures steps.some) (known ∙ ap (λ r. (r, c.in-Some.len)) c.in-Err.is) (front_fits _ xs at.place _ _ c.from.ensures steps.len)
    (omega arith) (rw c.kind.ensures at c.from_fault.ensures)

pub returns-clause-finds : goal.returns-clause-finds
returns-clause-finds g c =
    let xs = c.args.bytes.now in
    let at = c.loop-answer in
    rw c.fed-2.ensures (finds_all _ decoded some_bytes xs _ _ faults_are _ _ _ at.invariant (front_none xs at.place _ c.from.ensures c.in_default.ensures.steps.none))
