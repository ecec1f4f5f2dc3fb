use Rattle.std.proofs.Common.{ap, ◌∙◌}
use Rattle.utf_base.specs.Code.{utf16}
use Rattle.utf_base.specs.Units.{unit_fault_kind}
use Rattle.encode_unicode.specs.Mergers.{unread}
use Rattle.text_runs.proofs.MergedRuns.{IsMergedSoFar-none, of_units, merged_push, merged_some, merged_all, merged_joined, merged_alike}
use Rattle.text_runs.proofs.runs.collected.merge_utf16.Goals as goal

pub loop-answer-init : goal.loop-answer-init
loop-answer-init g c rest listed =
    IsMergedSoFar-none utf16 unit_fault_kind _ _ _ c.new-all.ensures.items (ap (unread rest) (c.into_iter-answer-iterator.ensures.into_iter_gives ∙ c.to_utf16chars-answer-items.ensures.merger))

pub loop-answer-preserved : goal.loop-answer-preserved
loop-answer-preserved g c rest listed =
    rw c.in_ok-push.ensures.items (merged_push of_units _ _ _ _ (c.loop-answer.invariant rest listed) _ (c.in-Some.ensures.steps.takes rest listed))

pub returns-clause-run : goal.returns-clause-run
returns-clause-run g c rest listed = merged_all of_units _ _ _ _ (c.loop-answer.invariant rest listed) (c.in-None.ensures.steps.takes rest listed)

pub returns-clause-joined : goal.returns-clause-joined
returns-clause-joined g c rest listed = merged_joined of_units _ _ _ _ (c.loop-answer.invariant rest listed) (c.in-None.ensures.steps.takes rest listed)

pub returns-clause-alike : goal.returns-clause-alike
returns-clause-alike g c rest listed items run = merged_alike of_units _ _ _ _ (c.loop-answer.invariant rest listed) (c.in-None.ensures.steps.takes rest listed) items run

pub returns-in_err-push-clause-nothing : goal.returns-in_err-push-clause-nothing
returns-in_err-push-clause-nothing g c rest listed none =
    absurd (merged_some of_units _ _ _ _ (c.loop-answer.invariant rest listed) _ (c.in-Some.ensures.steps.takes rest listed) none)
