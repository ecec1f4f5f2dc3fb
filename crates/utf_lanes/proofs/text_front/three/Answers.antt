use Rattle.std.proofs.Common.{◌≤◌, ◌∙◌, lit<, arith, sym}
use Rattle.utf_base.specs.Scalar.{IsScalar}
use Rattle.utf_base.proofs.FrontLemmas.{asked-3, least_value-3}
use Rattle.utf_base.proofs.KindCases.{begins_with}
use Rattle.utf_lanes.proofs.TextFronts.{three_sum, none_by_continuation_byte, none_by_surrogate, none_by_value}
use Rattle.utf_lanes.proofs.text_front.three.Goals as goal

pub returns-then-front-clause-none : goal.returns-then-front-clause-none
returns-then-front-clause-none c = none_by_surrogate c.args.src.now _ c.requires.low c.requires.high c.with_payload-front.ensures c.if-front.true

pub returns-then-not-is_continuation-clause-none : goal.returns-then-not-is_continuation-clause-none
returns-then-not-is_continuation-clause-none c =
    let asks = asked-3 _ c.requires.low c.requires.high in
    none_by_continuation_byte c.args.src.now 2 (lit< tt) (omega arith) (sym c.is_continuation.ensures ∙ c.if-not-is_continuation.true)

pub returns-then-value-lt2048-clause-none : goal.returns-then-value-lt2048-clause-none
returns-then-value-lt2048-clause-none c =
    let third = sym c.is_continuation.ensures ∙ c.if-not-is_continuation.false in
    let sums = (three_sum c.args.src.now _ _ c.requires.enough c.requires.low c.requires.high c.requires.second third c.with_payload-front.ensures c.with_payload-value.ensures).0 in
    let least = least_value-3 in
    let below = c.if-value-lt2048.true in
    none_by_value c.args.src.now 3 c.with_payload-value.result sums (λ enough scalar. absurd (omega arith))

pub returns-clause-some : goal.returns-clause-some
returns-clause-some c =
    let third = sym c.is_continuation.ensures ∙ c.if-not-is_continuation.false in
    let (sums, below, within) = three_sum c.args.src.now _ _ c.requires.enough c.requires.low c.requires.high c.requires.second third c.with_payload-front.ensures c.with_payload-value.ensures in
    let front = c.if-front.false in
    let least : 0x800 ≤ c.with_payload-value.result = omega arith in
    let scalar : IsScalar c.with_payload-value.result = record { below = omega arith; no_surrogate = λ g. grind (arith, within, front) } in
    rw c.from_u32_unchecked.ensures (begins_with _ 3 _ sums (rw least_value-3 least) scalar)
