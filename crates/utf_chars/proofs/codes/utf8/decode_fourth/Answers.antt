use Rattle.std.proofs.Common.{◌≡◌, ◌∙◌, ap, arith, lit<, refl, rules, sym}
use denote.Enum.Bare.{differs_true, differs_false}
use Rattle.utf_base.specs.contracts.table.State.{the_type}
use Rattle.utf_base.specs.declared.table.State.TheVariants.{Done}
use Rattle.utf_base.specs.Table.{is_running}
use Rattle.utf_base.proofs.FrontLemmas.{value-4}
use Rattle.utf_base.proofs.TableSteps.{last_ends, stepped}
use Rattle.utf_chars.proofs.Walked.{code_found, continues_in_code, fault_found, first_of_four, last_of_four, later_found, std_scalar, walk_finds}
use Rattle.utf_chars.proofs.codes.utf8.decode_fourth.Goals as goal

pub error_after-requires : goal.error_after-requires
error_after-requires c =
    let some = c.requires.some in
    later_found c.args.src.now 3 c.class_of.result c.args.third c.step-fourth.result (lit< tt) (omega arith) c.requires.walked c.requires.asks c.step-fourth.ensures (ap is_running c.step-fourth.ensures ∙ last_ends c.args.third c.class_of.result (last_of_four c.args.src.now c.args.third (omega arith) c.requires.walked c.requires.asks)) (differs_true the_type c.step-fourth.result Done (sym c.ne.ensures ∙ c.if-ne.true))

pub returns-then-ne : goal.returns-then-ne
returns-then-ne c =
    let some = c.requires.some in
    fault_found c.args.src.now 4 c.step-fourth.result (omega arith) c.requires.enough (stepped c.args.src.now 3 _ _ _ c.step-fourth.ensures c.class_of.ensures.class c.requires.walked) (ap is_running c.step-fourth.ensures ∙ last_ends c.args.third c.class_of.result (last_of_four c.args.src.now c.args.third (omega arith) c.requires.walked c.requires.asks)) ∙ c.error_after.ensures

pub value_of_four-value-requires : goal.value_of_four-value-requires
value_of_four-value-requires c =
    let some = c.requires.some in
    let done = differs_false the_type (search rules) c.step-fourth.result Done (sym c.ne.ensures ∙ c.if-ne.false) in
    let code = code_found c.args.src.now 3 c.args.third c.step-fourth.result (lit< tt) some c.requires.walked c.requires.asks (stepped c.args.src.now 3 _ _ _ c.step-fourth.ensures c.class_of.ensures.class c.requires.walked) done in
    record { first = first_of_four _ code.1; continuation_bytes = rw (continues_in_code _ 1 code.0 (lit< tt) (omega (arith, code.1)), continues_in_code _ 2 code.0 (lit< tt) (omega (arith, code.1)), continues_in_code _ 3 code.0 (lit< tt) (omega (arith, code.1))) refl }

pub from_u32_unchecked-requires : goal.from_u32_unchecked-requires
from_u32_unchecked-requires c =
    let some = c.requires.some in
    let done = differs_false the_type (search rules) c.step-fourth.result Done (sym c.ne.ensures ∙ c.if-ne.false) in
    let code = code_found c.args.src.now 3 c.args.third c.step-fourth.result (lit< tt) some c.requires.walked c.requires.asks (stepped c.args.src.now 3 _ _ _ c.step-fourth.ensures c.class_of.ensures.class c.requires.walked) done in
    std_scalar _ _ code.0 (value-4 c.args.src.now code.1 ∙ sym c.value_of_four-value.ensures)

pub returns : goal.returns
returns c =
    let some = c.requires.some in
    let done = differs_false the_type (search rules) c.step-fourth.result Done (sym c.ne.ensures ∙ c.if-ne.false) in
    let code = code_found c.args.src.now 3 c.args.third c.step-fourth.result (lit< tt) some c.requires.walked c.requires.asks (stepped c.args.src.now 3 _ _ _ c.step-fourth.ensures c.class_of.ensures.class c.requires.walked) done in
    rw c.from_u32_unchecked.ensures (walk_finds _ 4 _ code.0 code.1 (value-4 _ code.1 ∙ sym c.value_of_four-value.ensures))
