use Rattle.std.proofs.Common.{◌≡◌, ◌<◌, [], ◌∷◌, arith, lit<, refl, rules, sym, ◌∙◌, false}
use denote.Enum.Bare.{same_true, same_false}
use Rattle.utf_base.specs.contracts.table.State.{the_type}
use Rattle.utf_base.specs.declared.table.State.TheVariants.{Done}
use Rattle.utf_base.specs.Kinds.{asked}
use Rattle.utf_base.proofs.FrontLemmas.{asked-1, asked-no_continuation}
use Rattle.utf_base.proofs.TableLemmas.{found}
use Rattle.utf_base.proofs.TableSteps.{asks_no_other, asks_on, fault_at_end, faults_first, stepped}
use Rattle.utf_base.proofs.Utf8Code.{ascii_is_scalar, utf8-1}
use Rattle.encode_unicode.proofs.ByteMerging.{alone_completes, alone_fails, end_at_once}
use Rattle.encode_unicode.proofs.MergerSteps.{reads_none}
use Rattle.encode_unicode.proofs.utf8_merger.code_of.Goals as goal

pub one-requires : goal.one-requires
one-requires g c = found _ _ _ Done c.class_of.ensures.class c.step-state.ensures (same_true the_type (search rules) _ Done (sym c.eq.ensures ∙ c.if-eq.true))

pub returns-then-eq : goal.returns-then-eq
returns-then-eq g c =
    let low = found _ _ _ Done c.class_of.ensures.class c.step-state.ensures (same_true the_type (search rules) _ Done (sym c.eq.ensures ∙ c.if-eq.true)) in
    rw c.one.ensures (alone_completes _ c.requires.can (omega (arith, asked-1 c.args.first low)) c.requires.alone (ascii_is_scalar c.args.first low, sym (utf8-1 c.args.first low)))

pub error_of_first-requires : goal.error_of_first-requires
error_of_first-requires g c =
    let walked = stepped (c.args.first ∷ []) 0 _ _ _ c.step-state.ensures c.class_of.ensures.class refl in
    faults_first c.args.first c.step-state.result walked (sym c.is_running.ensures ∙ c.if-not-is_running.true) (same_false the_type _ Done (sym c.eq.ensures ∙ c.if-eq.false))

pub returns-then-not-is_running : goal.returns-then-not-is_running
returns-then-not-is_running g c =
    let walked = stepped (c.args.first ∷ []) 0 _ _ _ c.step-state.ensures c.class_of.ensures.class refl in
    let stops = sym c.is_running.ensures ∙ c.if-not-is_running.true in
    let few = asks_no_other c.args.first c.step-state.result walked stops in
    let fault = fault_at_end (c.args.first ∷ []) 1 c.step-state.result (lit< tt) few (sym walked) stops ∙ c.error_of_first.ensures in
    alone_fails c.requires.can few c.requires.alone c.requires.held fault

pub returns-then-is_ended : goal.returns-then-is_ended
returns-then-is_ended g c =
    let walked = stepped (c.args.first ∷ []) 0 _ _ _ c.step-state.ensures c.class_of.ensures.class refl in
    let asks : 1 < asked c.args.first = (asks_on (c.args.first ∷ []) 1 c.step-state.result (lit< tt) (lit< tt) walked (sym c.is_running.ensures ∙ c.if-not-is_running.false)).0 in
    let none = c.requires.alone (asked-no_continuation c.args.first (omega arith)) in
    rw c.new.ensures (end_at_once (sym c.is_ended.ensures ∙ c.if-is_ended.true) asks none)

pub second-requires : goal.second-requires
second-requires g c =
    let walked = stepped (c.args.first ∷ []) 0 _ _ _ c.step-state.ensures c.class_of.ensures.class refl in
    let runs = sym c.is_running.ensures ∙ c.if-not-is_running.false in
    let asks : 1 < asked c.args.first = (asks_on (c.args.first ∷ []) 1 c.step-state.result (lit< tt) (lit< tt) walked runs).0 in
    let going : c.args.held.now.ended ≡ false = sym c.is_ended.ensures ∙ c.if-is_ended.false in
    record {
      walked = walked;
      asks = runs;
      can = c.requires.can going;
      none = c.requires.alone (asked-no_continuation c.args.first (omega arith));
      going = going;
    }

pub returns : goal.returns
returns g c =
    let walked = stepped (c.args.first ∷ []) 0 _ _ _ c.step-state.ensures c.class_of.ensures.class refl in
    let asks : 1 < asked c.args.first = (asks_on (c.args.first ∷ []) 1 c.step-state.result (lit< tt) (lit< tt) walked (sym c.is_running.ensures ∙ c.if-not-is_running.false)).0 in
    let going : c.args.held.now.ended ≡ false = sym c.is_ended.ensures ∙ c.if-is_ended.false in
    let none = c.requires.alone (asked-no_continuation c.args.first (omega arith)) in
    rw (none, going) (c.second.ensures _ (reads_none (λ _. c.requires.can going)))
