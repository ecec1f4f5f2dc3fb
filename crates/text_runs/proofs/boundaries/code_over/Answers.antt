use Rattle.std.proofs.Common.{arith, sym, ◌∙◌}
use Rattle.text_runs.proofs.BoundaryLemmas.{none_at_end, none_over, none_over_start, over_found, over_push}
use Rattle.text_runs.proofs.boundaries.code_over.Goals as goal

pub returns-then-place-bytes : goal.returns-then-place-bytes
returns-then-place-bytes c = none_at_end c.args.bytes.now c.args.place c.if-place-bytes.true

pub returns-then-not-is_continuation : goal.returns-then-not-is_continuation
returns-then-not-is_continuation c = none_over_start c.args.bytes.now c.args.place c.requires (sym c.is_continuation.ensures ∙ c.if-not-is_continuation.true)

pub loop-start-init : goal.loop-start-init
loop-start-init c k s from before stands = let first = c.saturating_sub-start.ensures in absurd (omega arith)

pub loop-start-preserved : goal.loop-start-preserved
loop-start-preserved c = over_push _ _ c.loop-start.invariant c.end_of_code-end.ensures c.if-place-end.false

pub returns-then-place-end : goal.returns-then-place-end
returns-then-place-end c = over_found _ _ _ _ c.end_of_code-end.ensures c.loop-start-test.true c.if-place-end.true

pub returns : goal.returns
returns c = none_over _ _ c.requires (λ k s from before stands. c.loop-start.invariant k s from (let past = c.loop-start-test.false in omega arith) stands)
