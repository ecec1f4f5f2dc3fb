use Rattle.std.proofs.Common.{◌-◌, arith, sym, ◌∙◌}
use Rattle.utf_lanes.proofs.FewBytes.{text_to}
use Rattle.utf_lanes.proofs.TextFollows.{last_begin_near}
use Rattle.utf_lanes.proofs.JudgedText.{begins_from}
use Rattle.utf_lanes.proofs.text_blocks.last_code_start.Goals as goal

pub returns-then-not-is_continuation-clause-text : goal.returns-then-not-is_continuation-clause-text
returns-then-not-is_continuation-clause-text c =
    let xs = c.args.bytes.now in
    let place = c.loop-place.place in
    text_to xs (place - 1) c.args.end (omega arith) c.requires.within (begins_from xs (place - 1) (sym c.is_continuation.ensures ∙ c.if-not-is_continuation.true)) c.requires.follow

pub returns-then-not-is_continuation-clause-near : goal.returns-then-not-is_continuation-clause-near
returns-then-not-is_continuation-clause-near c =
    last_begin_near c.args.bytes.now (c.loop-place.place - 1) c.args.end c.requires.follow (λ k more less. c.loop-place.invariant.1 k (omega arith) less)

pub returns-clause-near : goal.returns-clause-near
returns-clause-near c = last_begin_near c.args.bytes.now 0 c.args.end c.requires.follow (λ k more less. c.loop-place.invariant.1 k (omega arith) less)
