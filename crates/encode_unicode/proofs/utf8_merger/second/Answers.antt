use Rattle.std.proofs.Common.{[], ◌∷◌, lit<, ap, sym, ◌∙◌, arith, refl, rules}
use denote.Enum.Bare.{differs_true, differs_false}
use Rattle.utf_base.specs.contracts.table.State.{the_type}
use Rattle.utf_base.specs.declared.table.State.TheVariants.{Done}
use Rattle.utf_base.specs.Kinds.{value}
use Rattle.utf_base.specs.Table.{is_running}
use Rattle.utf_base.proofs.TableSteps.{stepped}
use Rattle.utf_chars.proofs.Walked.{first_of_two, later_found}
use Rattle.encode_unicode.proofs.ByteMerging.{code_after, end_after, fault_after, held_none, held_one, two_padded}
use Rattle.encode_unicode.proofs.MergerSteps.{reads_more}
use Rattle.encode_unicode.proofs.TableWalks.{code_after_walk, kind_of_end, lacks}
use Rattle.encode_unicode.proofs.utf8_merger.second.Goals as goal

pub returns-in-None : goal.returns-in-None
returns-in-None g c =
    let few = lacks (c.args.first ∷ []) 1 c.args.state refl (lit< tt) c.requires.walked c.requires.asks in
    rw c.new.ensures (end_after c.args.first ([]) c.in-None.ensures few held_none (c.ended.ensures.held ∙ c.none.ensures.held) c.ended.ensures.ended)

pub invariant_of-front : goal.invariant_of-front
invariant_of-front g c = record {
  walked = stepped (c.args.first ∷ c.in-Some.byte ∷ []) 1 _ _ _ c.step-next.ensures c.class_of.ensures.class c.requires.walked;
  asks = sym c.is_running.ensures ∙ c.if-is_running.true;
}

pub third-requires : goal.third-requires
third-requires g c = record { can = c.in-Some.ensures.can refl; none = c.requires.none; going = c.requires.going }

pub returns-then-is_running : goal.returns-then-is_running
returns-then-is_running g c s so_far = c.third.ensures s (reads_more so_far c.in-Some.ensures)

pub error_after-requires : goal.error_after-requires
error_after-requires g c = later_found (c.args.first ∷ []) 1 c.class_of.result c.args.state c.step-next.result (lit< tt) (lit< tt) c.requires.walked c.requires.asks c.step-next.ensures (sym c.is_running.ensures ∙ c.if-is_running.false) (differs_true the_type c.step-next.result Done (sym c.ne.ensures ∙ c.if-ne.true))

pub returns-then-ne : goal.returns-then-ne
returns-then-ne g c =
    let at = sym (stepped (c.args.first ∷ c.in-Some.byte ∷ []) 1 _ _ _ c.step-next.ensures c.class_of.ensures.class c.requires.walked) in
    let stops = sym c.is_running.ensures ∙ c.if-is_running.false in
    fault_after c.args.first ([]) c.in-Some.byte c.in-Some.ensures (λ later. kind_of_end (c.args.first ∷ c.in-Some.byte ∷ later) 2 c.step-next.result _ (omega arith) at stops c.error_after.ensures) (held_one c.in-Some.byte) c.one.ensures.held c.one.ensures.going

pub two-requires : goal.two-requires
two-requires g c =
    let done = differs_false the_type (search rules) c.step-next.result Done (sym c.ne.ensures ∙ c.if-ne.false) in
    let code = code_after_walk (c.args.first ∷ c.in-Some.byte ∷ []) 1 refl (lit< tt) (sym (ap is_running c.requires.walked) ∙ c.requires.asks) (sym (stepped (c.args.first ∷ c.in-Some.byte ∷ []) 1 _ _ _ c.step-next.ensures c.class_of.ensures.class c.requires.walked) ∙ done) in
    first_of_two c.args.first code.2

pub returns-else-ne : goal.returns-else-ne
returns-else-ne g c =
    let done = differs_false the_type (search rules) c.step-next.result Done (sym c.ne.ensures ∙ c.if-ne.false) in
    let code = code_after_walk (c.args.first ∷ c.in-Some.byte ∷ []) 1 refl (lit< tt) (sym (ap is_running c.requires.walked) ∙ c.requires.asks) (sym (stepped (c.args.first ∷ c.in-Some.byte ∷ []) 1 _ _ _ c.step-next.ensures c.class_of.ensures.class c.requires.walked) ∙ done) in
    rw c.two.ensures (code_after c.args.first ([]) c.in-Some.byte (value (c.args.first ∷ c.in-Some.byte ∷ [])) c.in-Some.ensures code.0 code.1 (two_padded c.args.first c.in-Some.byte _ code.1) c.requires.none c.requires.going)
