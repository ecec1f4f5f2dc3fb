use Rattle.std.proofs.Common.{◌≡◌, ◌<◌, ◌≤◌, length, get_or, arith, refl, rules, sym, ◌∙◌, false}
use Rattle.std.proofs.lemmas.Grind.{common_steps}
use denote.Enum.Bare.{differs_true, differs_false}
use Rattle.utf_base.specs.contracts.table.State.{the_type}
use Rattle.utf_base.specs.declared.table.State.TheVariants.{Done}
use Rattle.utf_base.specs.Kinds.{asked}
use Rattle.utf_base.proofs.KindCases.{kind-empty, begins_with-1}
use Rattle.utf_base.proofs.TableLemmas.{found}
use Rattle.utf_base.proofs.TableSteps.{asks_no_other, faults_first, stepped}
use Rattle.utf_chars.proofs.Walked.{fault_found}
use Rattle.utf_chars.proofs.codes.utf8.decode_start.Goals as goal

pub returns-then-is_empty : goal.returns-then-is_empty
returns-then-is_empty c = rw c.new.ensures (kind-empty _ (grind (arith, common_steps)))

pub decode_asked-requires : goal.decode_asked-requires
decode_asked-requires c =
    let some : 0 < length c.args.src.now = grind (arith, common_steps) in
    record { some = some; walked = stepped c.args.src.now 0 _ _ _ c.step-first.ensures c.class_of.ensures.class refl; asks = sym c.is_running.ensures ∙ c.if-is_running.true }

pub error_of_first-requires : goal.error_of_first-requires
error_of_first-requires c =
    let at = stepped c.args.src.now 0 _ _ _ c.step-first.ensures c.class_of.ensures.class refl in
    faults_first (get_or c.args.src.now 0 0) c.step-first.result at (sym c.is_running.ensures ∙ c.if-is_running.false) (differs_true the_type c.step-first.result Done (sym c.ne.ensures ∙ c.if-ne.true))

pub returns-then-ne : goal.returns-then-ne
returns-then-ne c =
    let some : 0 < length c.args.src.now = grind (arith, common_steps) in
    let at = stepped c.args.src.now 0 _ _ _ c.step-first.ensures c.class_of.ensures.class refl in
    let stops = sym c.is_running.ensures ∙ c.if-is_running.false in
    let few : asked (get_or c.args.src.now 0 0) ≤ 1 = asks_no_other (get_or c.args.src.now 0 0) c.step-first.result at stops in
    fault_found c.args.src.now 1 c.step-first.result (omega arith) (omega arith) at stops ∙ c.error_of_first.ensures

pub ascii-requires : goal.ascii-requires
ascii-requires c = found _ _ _ Done c.class_of.ensures.class c.step-first.ensures (differs_false the_type (search rules) c.step-first.result Done (sym c.ne.ensures ∙ c.if-ne.false))

pub returns : goal.returns
returns c =
    let some : 0 < length c.args.src.now = grind (arith, common_steps) in
    let first = found _ _ _ Done c.class_of.ensures.class c.step-first.ensures (differs_false the_type (search rules) c.step-first.result Done (sym c.ne.ensures ∙ c.if-ne.false)) in
    rw c.ascii.ensures (begins_with-1 _ some first)
