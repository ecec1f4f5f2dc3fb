use Rattle.std.proofs.Common.{[], ◌∷◌, lit<, sym, ◌∙◌, refl, rules}
use denote.Enum.Bare.{differs_true, differs_false}
use Rattle.utf_base.specs.contracts.table.State.{the_type}
use Rattle.utf_base.specs.declared.table.State.TheVariants.{Done}
use Rattle.utf_chars.proofs.PaddedLemmas.{IsPadded_padded}
use Rattle.utf_chars.proofs.Walked.{Walk-2}
use Rattle.encode_unicode.proofs.ByteMerging.{two_padded}
use Rattle.encode_unicode.proofs.Wholes.{IsCode, range_of_two, code_by_walk, none_outside, none_by_last, whole_in_four}
use Rattle.encode_unicode.proofs.decoding_iterators.back_scan.two_or_unexpected.Goals.{Else-ne}
use Rattle.encode_unicode.proofs.decoding_iterators.back_scan.two_or_unexpected.Goals as goal

code : (c : Else-ne) → IsCode (c.args.first ∷ c.args.second ∷ [])
code c =
    let done = differs_false the_type (search rules) c.step.result Done (sym c.ne.ensures ∙ c.if-ne.false) in
    code_by_walk _ 1 _ _ _ refl (lit< tt) (Walk-2 _ c.if-first-lt194.false c.if-first-ge224.false) (record { class = c.class_of.ensures.class; step = c.step.ensures }) done

pub returns-then-first-lt194 : goal.returns-then-first-lt194
returns-then-first-lt194 c = (none_outside _ 2 0xC2 0xE0 refl range_of_two c.then-first-lt194.either, c.unexpected.ensures)

pub returns-then-ne : goal.returns-then-ne
returns-then-ne c =
    let other = differs_true the_type c.step.result Done (sym c.ne.ensures ∙ c.if-ne.true) in
    (none_by_last _ 1 _ _ _ refl (Walk-2 _ c.if-first-lt194.false c.if-first-ge224.false) (record { class = c.class_of.ensures.class; step = c.step.ensures }) other, c.unexpected-then-ne.ensures)

pub from_array_unchecked-c-requires : goal.from_array_unchecked-c-requires
from_array_unchecked-c-requires c = let code = code (goal.at.from_array_unchecked-c-requires c).Else-ne in IsPadded_padded _ _ code.0 (two_padded c.args.first c.args.second _ code.1)

pub returns : goal.returns
returns c =
    let code = code (goal.at.returns c).Else-ne in
    (whole_in_four _ _ _ code.0 code.1 (two_padded c.args.first c.args.second _ code.1) c.from_array_unchecked-c.ensures.known, refl)
