use Rattle.std.proofs.Common.{refl, ◌∙◌}
use Rattle.encode_unicode.proofs.ForCallers.{utf8_is_std}
use Rattle.examples.proofs.RecodeLemmas.{recoded_begun, recoded_answer, recoded_no_error, recoded_all, units_left, units_listed}
use Rattle.examples.proofs.recoders.recode.Goals as goal

pub loop-answer-init : goal.loop-answer-init
loop-answer-init c =
    rw c.new-again.ensures.bytes (recoded_begun _ _ c.utf8.text (c.into_iter-answer-iterator.ensures.into_iter_gives ∙ c.to_utf16chars-answer-items.ensures.merger ∙ rw (c.to_units.ensures.splitter, c.utf16chars.ensures.window) refl))

pub loop-answer-preserved-in-Continue-1 : goal.loop-answer-preserved-in-Continue-1
loop-answer-preserved-in-Continue-1 c =
    let more = recoded_answer c.in-Ok.c c.loop-answer.invariant c.in-Ok.is (c.in-Some.ensures.steps.takes units_left units_listed) in
    rw (c.in_ok-push.ensures.bytes, c.to_char.ensures.char, utf8_is_std c.in-Ok.c) more

pub loop-answer-preserved : goal.loop-answer-preserved
loop-answer-preserved c = absurd (recoded_no_error _ c.loop-answer.invariant c.in_default.is (c.in-Some.ensures.steps.takes units_left units_listed))

pub returns : goal.returns
returns c = recoded_all _ _ _ c.loop-answer.invariant (c.in-None.ensures.steps.takes units_left units_listed).0
