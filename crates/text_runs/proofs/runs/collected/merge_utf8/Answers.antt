use Rattle.std.proofs.Common.{ap, ◌∙◌}
use Rattle.utf_base.specs.Code.{utf8}
use Rattle.utf_base.specs.Kinds.{merger_kind}
use Rattle.encode_unicode.specs.Mergers.{unread}
use Rattle.text_runs.proofs.MergedRuns.{IsMergedSoFar-none, of_bytes, merged_push, merged_some, merged_all, merged_joined}
use Rattle.text_runs.proofs.runs.collected.merge_utf8.Goals as goal

pub loop-answer-init : goal.loop-answer-init
loop-answer-init g c rest listed =
    IsMergedSoFar-none utf8 merger_kind _ _ _ c.new-all.ensures.items (ap (unread rest) (c.into_iter-answer-iterator.ensures.into_iter_gives ∙ c.to_utf8chars-answer-items.ensures.merger))

pub loop-answer-preserved : goal.loop-answer-preserved
loop-answer-preserved g c rest listed =
    rw c.in_ok-push.ensures.items (merged_push of_bytes _ _ _ _ (c.loop-answer.invariant rest listed) _ (c.in-Some.ensures.steps.takes rest listed))

pub returns-clause-run : goal.returns-clause-run
returns-clause-run g c rest listed = merged_all of_bytes _ _ _ _ (c.loop-answer.invariant rest listed) (c.in-None.ensures.steps.takes rest listed)

pub returns-clause-joined : goal.returns-clause-joined
returns-clause-joined g c rest listed = merged_joined of_bytes _ _ _ _ (c.loop-answer.invariant rest listed) (c.in-None.ensures.steps.takes rest listed)

pub returns-in_err-push-clause-nothing : goal.returns-in_err-push-clause-nothing
returns-in_err-push-clause-nothing g c rest listed none =
    absurd (merged_some of_bytes _ _ _ _ (c.loop-answer.invariant rest listed) _ (c.in-Some.ensures.steps.takes rest listed) none)
