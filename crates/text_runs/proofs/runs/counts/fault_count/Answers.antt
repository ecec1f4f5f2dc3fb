use Rattle.std.proofs.Common.{◌∙◌, ap, sym}
use Rattle.utf_base.specs.Decoded.{decoded}
use Rattle.encode_unicode.proofs.ForCallers.{some_bytes}
use Rattle.text_runs.proofs.FaultLemmas.{counted_all, counted_fault, counted_text, fault_count_is, front_fits, front_known, front_none, front_some, text_fits, text_known}
use Rattle.text_runs.proofs.runs.counts.fault_count.Goals as goal

pub loop-answer-preserved-in-Ok : goal.loop-answer-preserved-in-Ok
loop-answer-preserved-in-Ok c =
    let xs = c.args.bytes.now in
    let at = c.loop-answer in
    let steps = c.in-Some.ensures.steps in
    let known = front_known decoded xs at.place _ _ _ c.from.ensures steps.known in
    counted_text decoded some_bytes xs _ _ _ _ _ at.invariant (front_some xs at.place _ c.from.ensures steps.some) (front_fits _ xs at.place _ _ c.from.ensures steps.len) (known ∙ ap (λ r. (r, c.in-Some.len)) c.in-Ok.is)
    (text_fits xs _ _ c.valid_up_to-place.ensures.within) (text_known decoded xs _ _ c.valid_up_to-place.ensures.value)

pub loop-answer-preserved : goal.loop-answer-preserved
loop-answer-preserved c =
    let xs = c.args.bytes.now in
    let at = c.loop-answer in
    let steps = c.in-Some.ensures.steps in
    let known = front_known decoded xs at.place _ _ _ c.from.ensures steps.known in
    counted_fault decoded some_bytes xs _ _ _ _ at.invariant (front_some xs at.place _ c.from.ensures steps.some) (front_fits _ xs at.place _ _ c.from.ensures steps.len) (known ∙ ap (λ r. (r, c.in-Some.len)) c.in-Err.is)

pub returns : goal.returns
returns c =
    let xs = c.args.bytes.now in
    let at = c.loop-answer in
    counted_all decoded some_bytes xs _ _ at.invariant (front_none xs at.place _ c.from.ensures c.in_default.ensures.steps.none) ∙ sym (fault_count_is xs)
