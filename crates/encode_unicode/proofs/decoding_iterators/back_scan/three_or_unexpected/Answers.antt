use Rattle.std.proofs.Common.{[], ◌∷◌, lit<, sym, ◌∙◌, refl, rules}
use denote.Enum.Bare.{same_true, same_false, differs_true, differs_false}
use Rattle.utf_base.specs.contracts.table.State.{the_type}
use Rattle.utf_base.specs.declared.table.State.TheVariants.{Done, Interrupted}
use Rattle.utf_chars.proofs.PaddedLemmas.{IsPadded_padded}
use Rattle.utf_chars.proofs.Walked.{Walk, Walk-3, running, walk_on}
use Rattle.encode_unicode.proofs.ByteMerging.{three_padded}
use Rattle.encode_unicode.proofs.Wholes.{IsCode, range_of_three, code_by_walk, none_by_break, none_outside, none_by_last, whole_in_four}
use Rattle.encode_unicode.proofs.decoding_iterators.back_scan.three_or_unexpected.Goals.{After-step-two_more, Else-eq, Else-ne}
use Rattle.encode_unicode.proofs.decoding_iterators.back_scan.three_or_unexpected.Goals as goal

-- The walk after each step; the bytes are a code if the last step ends it.

first : (c : After-step-two_more) → Walk (c.args.first ∷ c.args.second ∷ c.args.third ∷ []) 1 c.step-two_more.result 2
first c = Walk-3 _ _ _ c.if-first-lt224.false c.if-first-ge240.false (record { class = c.class_of.ensures.class; step = c.step-two_more.ensures })

second : (c : Else-eq) → Walk (c.args.first ∷ c.args.second ∷ c.args.third ∷ []) 2 c.step-one_more.result 1
second c = walk_on _ 1 1 _ _ _ (Walk-3 _ _ _ c.if-first-lt224.false c.if-first-ge240.false (record { class = c.class_of.ensures.class; step = c.step-two_more.ensures })) (record { class = c.class_of-2.ensures.class; step = c.step-one_more.ensures }) (same_false the_type _ Interrupted (sym c.eq.ensures ∙ c.if-eq.false))

code : (c : Else-ne) → IsCode (c.args.first ∷ c.args.second ∷ c.args.third ∷ [])
code c =
    let second : Walk (c.args.first ∷ c.args.second ∷ c.args.third ∷ []) 2 c.step-one_more.result 1 = walk_on _ 1 1 _ _ _ (Walk-3 _ _ _ c.if-first-lt224.false c.if-first-ge240.false (record { class = c.class_of.ensures.class; step = c.step-two_more.ensures })) (record { class = c.class_of-2.ensures.class; step = c.step-one_more.ensures }) (same_false the_type _ Interrupted (sym c.eq.ensures ∙ c.if-eq.false)) in
    code_by_walk _ 2 _ _ _ refl (lit< tt) second (record { class = c.class_of-3.ensures.class; step = c.step.ensures }) (differs_false the_type (search rules) c.step.result Done (sym c.ne.ensures ∙ c.if-ne.false))

pub returns-then-first-lt224 : goal.returns-then-first-lt224
returns-then-first-lt224 c = (none_outside _ 3 0xE0 0xF0 refl range_of_three c.then-first-lt224.either, c.unexpected.ensures)

pub returns-then-eq : goal.returns-then-eq
returns-then-eq c =
    let broken = same_true the_type (search rules) _ Interrupted (sym c.eq.ensures ∙ c.if-eq.true) in
    (none_by_break _ 1 2 _ _ _ (lit< tt) (first (goal.at.returns-then-eq c).After-step-two_more) (record { class = c.class_of-2.ensures.class; step = c.step-one_more.ensures }) broken, c.unexpected-then-eq.ensures)

pub step-requires-clause-running : goal.step-requires-clause-running
step-requires-clause-running c = running _ 2 0 _ (second (goal.at.step-requires-clause-running c).Else-eq)

pub returns-then-ne : goal.returns-then-ne
returns-then-ne c =
    let other = differs_true the_type c.step.result Done (sym c.ne.ensures ∙ c.if-ne.true) in
    (none_by_last _ 2 _ _ _ refl (second (goal.at.returns-then-ne c).Else-eq) (record { class = c.class_of-3.ensures.class; step = c.step.ensures }) other, c.unexpected-then-ne.ensures)

pub from_array_unchecked-c-requires : goal.from_array_unchecked-c-requires
from_array_unchecked-c-requires c =
    let code = code (goal.at.from_array_unchecked-c-requires c).Else-ne in
    IsPadded_padded _ _ code.0 (three_padded c.args.first c.args.second c.args.third _ code.1)

pub returns : goal.returns
returns c =
    let code = code (goal.at.returns c).Else-ne in
    (whole_in_four _ _ _ code.0 code.1 (three_padded c.args.first c.args.second c.args.third _ code.1) c.from_array_unchecked-c.ensures.known, refl)
