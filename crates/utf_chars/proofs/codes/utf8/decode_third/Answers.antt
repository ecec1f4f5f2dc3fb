use Rattle.std.proofs.Common.{◌≡◌, ◌∙◌, ap, arith, lit<, refl, rules, sym}
use denote.Enum.Bare.{differs_true, differs_false}
use Rattle.utf_base.specs.contracts.table.State.{the_type}
use Rattle.utf_base.specs.declared.table.State.TheVariants.{Done}
use Rattle.utf_base.proofs.FrontLemmas.{value-3}
use Rattle.utf_base.proofs.TableSteps.{stepped}
use Rattle.utf_chars.proofs.Walked.{code_found, continues_in_code, fault_found, first_of_three, later_found, std_scalar, there, walk_finds}
use Rattle.utf_chars.proofs.codes.utf8.decode_third.Goals as goal

pub decode_fourth-requires : goal.decode_fourth-requires
decode_fourth-requires c =
    let some = c.requires.some in
    record {
      walked = stepped c.args.src.now 2 _ _ _ c.step-third.ensures c.class_of.ensures.class c.requires.walked;
      asks = sym c.is_running.ensures ∙ c.if-is_running.true;
      some = there c.args.src.now 3 c.step-third.result (lit< tt) (omega arith) (stepped c.args.src.now 2 _ _ _ c.step-third.ensures c.class_of.ensures.class c.requires.walked) (sym c.is_running.ensures ∙ c.if-is_running.true) c.requires.enough;
      enough = c.requires.enough;
    }

pub error_after-requires : goal.error_after-requires
error_after-requires c =
    let some = c.requires.some in
    later_found c.args.src.now 2 c.class_of.result c.args.second c.step-third.result (lit< tt) (omega arith) c.requires.walked c.requires.asks c.step-third.ensures (sym c.is_running.ensures ∙ c.if-is_running.false) (differs_true the_type c.step-third.result Done (sym c.ne.ensures ∙ c.if-ne.true))

pub returns-then-ne : goal.returns-then-ne
returns-then-ne c =
    let some = c.requires.some in
    fault_found c.args.src.now 3 c.step-third.result (omega arith) c.requires.enough (stepped c.args.src.now 2 _ _ _ c.step-third.ensures c.class_of.ensures.class c.requires.walked) (sym c.is_running.ensures ∙ c.if-is_running.false) ∙ c.error_after.ensures

pub value_of_three-value-requires : goal.value_of_three-value-requires
value_of_three-value-requires c =
    let some = c.requires.some in
    let done = differs_false the_type (search rules) c.step-third.result Done (sym c.ne.ensures ∙ c.if-ne.false) in
    let code = code_found c.args.src.now 2 c.args.second c.step-third.result (lit< tt) some c.requires.walked c.requires.asks (stepped c.args.src.now 2 _ _ _ c.step-third.ensures c.class_of.ensures.class c.requires.walked) done in
    record { first = first_of_three _ code.1; continuation_bytes = rw (continues_in_code _ 1 code.0 (lit< tt) (omega (arith, code.1)), continues_in_code _ 2 code.0 (lit< tt) (omega (arith, code.1))) refl }

pub from_u32_unchecked-requires : goal.from_u32_unchecked-requires
from_u32_unchecked-requires c =
    let some = c.requires.some in
    let done = differs_false the_type (search rules) c.step-third.result Done (sym c.ne.ensures ∙ c.if-ne.false) in
    let code = code_found c.args.src.now 2 c.args.second c.step-third.result (lit< tt) some c.requires.walked c.requires.asks (stepped c.args.src.now 2 _ _ _ c.step-third.ensures c.class_of.ensures.class c.requires.walked) done in
    std_scalar _ _ code.0 (value-3 c.args.src.now code.1 ∙ sym c.value_of_three-value.ensures.sum)

pub returns : goal.returns
returns c =
    let some = c.requires.some in
    let done = differs_false the_type (search rules) c.step-third.result Done (sym c.ne.ensures ∙ c.if-ne.false) in
    let code = code_found c.args.src.now 2 c.args.second c.step-third.result (lit< tt) some c.requires.walked c.requires.asks (stepped c.args.src.now 2 _ _ _ c.step-third.ensures c.class_of.ensures.class c.requires.walked) done in
    rw c.from_u32_unchecked.ensures (walk_finds _ 3 _ code.0 code.1 (value-3 _ code.1 ∙ sym c.value_of_three-value.ensures.sum))
