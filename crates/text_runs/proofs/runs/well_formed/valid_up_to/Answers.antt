use Rattle.std.proofs.Common.{arith}
use Rattle.std.proofs.lemmas.List.{take_rest}
use Rattle.utf_base.specs.Code.{utf8}
use Rattle.utf_lanes.proofs.JudgedText.{text_step}
use Rattle.text_runs.proofs.CharacterRuns.{first_fault_of_text}
use Rattle.recoding.proofs.FirstFaults.{good_all, good_bytes, first_fault}
use Rattle.recoding.proofs.GoodCodes.{good_text}
use Rattle.text_runs.proofs.ValidLengths.{first_fault_known}
use Rattle.text_runs.proofs.runs.well_formed.valid_up_to.Goals as goal

pub loop-place-init : goal.loop-place-init
loop-place-init c =
    let text = c.text_len-place.ensures in
    (good_text c.args.bytes.now c.text_len-place.result text.within text.text, text.text)

pub loop-place-preserved : goal.loop-place-preserved
loop-place-preserved c =
    let bytes = c.args.bytes.now in
    let place = c.loop-place.place in
    let begins = rw (take_rest bytes place) at c.in-Ok.ensures.decodes in
    (good_bytes bytes place _ c.in-Ok.len c.loop-place.invariant.0 begins, text_step bytes place _ c.in-Ok.len c.loop-place.invariant.1 begins)

pub returns-in-Err-clause-first : goal.returns-in-Err-clause-first
returns-in-Err-clause-first c =
    let bytes = c.args.bytes.now in
    let place = c.loop-place.place in
    first_fault bytes place _ c.loop-place.invariant.0 c.loop-place-test.true (rw (take_rest bytes place) at c.in-Err.ensures.decodes)

pub returns-in-Err-clause-value : goal.returns-in-Err-clause-value
returns-in-Err-clause-value c = first_fault_known _ _ (returns-in-Err-clause-first c)

pub returns-clause-value : goal.returns-clause-value
returns-clause-value c = first_fault_known _ _ (good_all utf8 _ _ c.loop-place.invariant.0 (omega (arith, c.loop-place-test.false)))

pub returns-in-Err-clause-whole : goal.returns-in-Err-clause-whole
returns-in-Err-clause-whole c text = first_fault_of_text _ _ (returns-in-Err-clause-first c) text

pub returns-clause-whole : goal.returns-clause-whole
returns-clause-whole c text = first_fault_of_text _ _ (good_all utf8 _ _ c.loop-place.invariant.0 (omega (arith, c.loop-place-test.false))) text
