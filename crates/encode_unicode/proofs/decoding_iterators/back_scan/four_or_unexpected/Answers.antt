use Rattle.std.proofs.Common.{◌≡◌, ◌<◌, ◌≤◌, ◌⊎◌, inl, inr, length, get_or, lit<, sym, ◌∙◌, arith, rules}
use denote.Enum.Bare.{same_true, same_false, differs_true, differs_false}
use Rattle.utf_base.specs.contracts.table.State.{the_type}
use Rattle.utf_base.specs.declared.table.State.TheVariants.{Done, Interrupted}
use Rattle.utf_chars.proofs.PaddedLemmas.{IsPadded_padded}
use Rattle.utf_chars.proofs.Walked.{Walk, Walk-4, running, walk_on}
use Rattle.encode_unicode.proofs.Wholes.{IsCode, range_of_four, all_padded, code_by_walk, none_by_break, none_outside, none_by_last, whole_in_four}
use Rattle.encode_unicode.proofs.decoding_iterators.back_scan.four_or_unexpected.Goals.{then-bytes-lt240-via-then-bytes-lt240, then-bytes-lt240-via-else-bytes-lt240+then-bytes-ge245, After-step-three_more, Else-eq, Else-eq-2, Else-ne}
use Rattle.encode_unicode.proofs.decoding_iterators.back_scan.four_or_unexpected.Goals as goal

-- The walk after each step; the bytes are a code if the last step ends it.

first : (c : After-step-three_more) → Walk c.args.bytes 1 c.step-three_more.result 3
first c = Walk-4 _ _ _ c.if-bytes-lt240.false c.if-bytes-ge245.false (record { class = c.class_of.ensures.class; step = c.step-three_more.ensures })

second : (c : Else-eq) → Walk c.args.bytes 2 c.step-two_more.result 2
second c = walk_on _ 1 2 _ _ _ (Walk-4 _ _ _ c.if-bytes-lt240.false c.if-bytes-ge245.false (record { class = c.class_of.ensures.class; step = c.step-three_more.ensures })) (record { class = c.class_of-2.ensures.class; step = c.step-two_more.ensures }) (same_false the_type _ Interrupted (sym c.eq.ensures ∙ c.if-eq.false))

third : (c : Else-eq-2) → Walk c.args.bytes 3 c.step-one_more.result 1
third c =
    let second : Walk c.args.bytes 2 c.step-two_more.result 2 = walk_on _ 1 2 _ _ _ (Walk-4 _ _ _ c.if-bytes-lt240.false c.if-bytes-ge245.false (record { class = c.class_of.ensures.class; step = c.step-three_more.ensures })) (record { class = c.class_of-2.ensures.class; step = c.step-two_more.ensures }) (same_false the_type _ Interrupted (sym c.eq.ensures ∙ c.if-eq.false)) in
    walk_on _ 2 1 _ _ _ second (record { class = c.class_of-3.ensures.class; step = c.step-one_more.ensures }) (same_false the_type _ Interrupted (sym c.eq-2.ensures ∙ c.if-eq-2.false))

code : (c : Else-ne) → IsCode c.args.bytes
code c =
    let second : Walk c.args.bytes 2 c.step-two_more.result 2 = walk_on _ 1 2 _ _ _ (Walk-4 _ _ _ c.if-bytes-lt240.false c.if-bytes-ge245.false (record { class = c.class_of.ensures.class; step = c.step-three_more.ensures })) (record { class = c.class_of-2.ensures.class; step = c.step-two_more.ensures }) (same_false the_type _ Interrupted (sym c.eq.ensures ∙ c.if-eq.false)) in
    let third = walk_on _ 2 1 _ _ _ second (record { class = c.class_of-3.ensures.class; step = c.step-one_more.ensures }) (same_false the_type _ Interrupted (sym c.eq-2.ensures ∙ c.if-eq-2.false)) in
    code_by_walk _ 3 _ _ _ (search rules) (lit< tt) third (record { class = c.class_of-4.ensures.class; step = c.step.ensures }) (differs_false the_type (search rules) c.step.result Done (sym c.ne.ensures ∙ c.if-ne.false))

pub returns-then-bytes-lt240 : goal.returns-then-bytes-lt240
returns-then-bytes-lt240 c =
    let out : (get_or c.args.bytes 0 0 < 0xF0) ⊎ ((0xF0 ≤ get_or c.args.bytes 0 0) × (0xF5 ≤ get_or c.args.bytes 0 0)) =
    elim c.then-bytes-lt240.branch [
      | then-bytes-lt240-via-then-bytes-lt240 w ↦ inl w.if-bytes-lt240.true
      | then-bytes-lt240-via-else-bytes-lt240+then-bytes-ge245 w ↦ inr (w.if-bytes-lt240.false, w.if-bytes-ge245.true)
    ] in
    (none_outside _ 4 0xF0 0xF5 (search rules) range_of_four out, c.unexpected.ensures)

pub returns-then-eq : goal.returns-then-eq
returns-then-eq c =
    let len : length c.args.bytes ≡ 4 = search rules in
    let broken = same_true the_type (search rules) _ Interrupted (sym c.eq.ensures ∙ c.if-eq.true) in
    (none_by_break _ 1 3 _ _ _ (omega arith) (first (goal.at.returns-then-eq c).After-step-three_more) (record { class = c.class_of-2.ensures.class; step = c.step-two_more.ensures }) broken, c.unexpected-then-eq.ensures)

pub step-one_more-requires-clause-running : goal.step-one_more-requires-clause-running
step-one_more-requires-clause-running c = running _ 2 1 _ (second (goal.at.step-one_more-requires-clause-running c).Else-eq)

pub returns-then-eq-2 : goal.returns-then-eq-2
returns-then-eq-2 c =
    let len : length c.args.bytes ≡ 4 = search rules in
    let broken = same_true the_type (search rules) _ Interrupted (sym c.eq-2.ensures ∙ c.if-eq-2.true) in
    (none_by_break _ 2 2 _ _ _ (omega arith) (second (goal.at.returns-then-eq-2 c).Else-eq) (record { class = c.class_of-3.ensures.class; step = c.step-one_more.ensures }) broken, c.unexpected-then-eq-2.ensures)

pub step-requires-clause-running : goal.step-requires-clause-running
step-requires-clause-running c = running _ 3 0 _ (third (goal.at.step-requires-clause-running c).Else-eq-2)

pub returns-then-ne : goal.returns-then-ne
returns-then-ne c =
    let other = differs_true the_type c.step.result Done (sym c.ne.ensures ∙ c.if-ne.true) in
    (none_by_last _ 3 _ _ _ (search rules) (third (goal.at.returns-then-ne c).Else-eq-2) (record { class = c.class_of-4.ensures.class; step = c.step.ensures }) other, c.unexpected-then-ne.ensures)

pub from_array_unchecked-c-requires : goal.from_array_unchecked-c-requires
from_array_unchecked-c-requires c =
    let code = code (goal.at.from_array_unchecked-c-requires c).Else-ne in
    IsPadded_padded _ _ code.0 (all_padded c.args.bytes _ (search rules) code.1)

pub returns : goal.returns
returns c =
    let len : length c.args.bytes ≡ 4 = search rules in
    let code = code (goal.at.returns c).Else-ne in
    (whole_in_four c.args.bytes _ _ code.0 code.1 (all_padded c.args.bytes _ len code.1) c.from_array_unchecked-c.ensures.known, sym len)
