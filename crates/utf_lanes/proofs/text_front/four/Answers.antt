use Rattle.std.proofs.Common.{◌≡◌, ◌≤◌, ◌<◌, ◌%◌, ◌∙◌, get_or, lit<, arith, sym}
use Rattle.std.specs.Int.Bits.{bit_and}
use Rattle.std.proofs.lemmas.Nat.{and_mask}
use Rattle.utf_base.specs.Scalar.{IsScalar}
use Rattle.utf_base.proofs.FrontLemmas.{asked-4, least_value-4}
use Rattle.utf_base.proofs.KindCases.{begins_with}
use Rattle.utf_lanes.proofs.TextFronts.{four_sum, none_by_continuation_byte, none_by_front_of_four}
use Rattle.utf_lanes.proofs.text_front.four.Goals.{then-front-via-then-front, then-front-via-else-front+then-front-2}
use Rattle.utf_lanes.proofs.text_front.four.Goals.{then-not-is_continuation-via-then-not-is_continuation, then-not-is_continuation-via-else-not-is_continuation+then-not-is_continuation-2}
use Rattle.utf_lanes.proofs.text_front.four.Goals as goal

pub returns-then-front-clause-none : goal.returns-then-front-clause-none
returns-then-front-clause-none c =
    none_by_front_of_four c.args.src.now _ c.requires.low c.with_payload-front.ensures (λ least most. elim c.then-front.branch [
      | then-front-via-then-front w ↦ let low = w.if-front.true in absurd (omega arith)
      | then-front-via-else-front+then-front-2 w ↦ let high = w.if-front-2.true in absurd (omega arith)
    ])

pub returns-then-not-is_continuation-clause-none : goal.returns-then-not-is_continuation-clause-none
returns-then-not-is_continuation-clause-none c =
    let first : bit_and (get_or c.args.src.now 0 0) 0x0F ≡ get_or c.args.src.now 0 0 % 16 = and_mask (get_or c.args.src.now 0 0) 4 in
    let asks = asked-4 (get_or c.args.src.now 0 0) c.requires.low (omega arith) in
    elim c.then-not-is_continuation.branch [
      | then-not-is_continuation-via-then-not-is_continuation w ↦ none_by_continuation_byte c.args.src.now 2 (lit< tt) (omega arith) (sym c.is_continuation.ensures ∙ w.if-not-is_continuation.true)
      | then-not-is_continuation-via-else-not-is_continuation+then-not-is_continuation-2 w ↦
          none_by_continuation_byte c.args.src.now 3 (lit< tt) (omega arith) (sym w.is_continuation-else-not-is_continuation.ensures ∙ w.if-not-is_continuation-2.true)
    ]

pub returns-clause-some : goal.returns-clause-some
returns-clause-some c =
    let first : bit_and (get_or c.args.src.now 0 0) 0x0F ≡ get_or c.args.src.now 0 0 % 16 = and_mask (get_or c.args.src.now 0 0) 4 in
    let third = sym c.is_continuation.ensures ∙ c.if-not-is_continuation.false in
    let fourth = sym c.is_continuation-else-not-is_continuation.ensures ∙ c.if-not-is_continuation-2.false in
    let high : get_or c.args.src.now 0 0 < 0xF5 = omega arith in
    let (sums, from, below) = four_sum c.args.src.now _ _ _ c.requires.enough c.requires.low high c.requires.second third fourth c.with_payload-front.ensures c.with_payload.ensures c.with_payload-value.ensures in
    let least : 0x1_0000 ≤ c.with_payload-value.result = omega arith in
    let scalar : IsScalar c.with_payload-value.result = record { below = omega arith; no_surrogate = λ h. omega arith } in
    rw c.from_u32_unchecked.ensures (begins_with _ 4 _ sums (rw least_value-4 least) scalar)
