use Rattle.std.proofs.Common.{◌≡◌, ◌∙◌, ◌++◌, ◌∷◌, [], List, Some, None, ap, append-nil, append_assoc, sym}
use Rattle.encode_unicode.proofs.Listed.{unit_decoder_listed}
use Rattle.encode_unicode.specs.Pieces.{unit_pieces_left}
use Rattle.encode_unicode.specs.Window.{GivesFrontUnits, GivesNone, UnitItem, Window}
use Rattle.text_runs.proofs.ForwardRuns.{IsUnitRunSoFar-push}
use Rattle.text_runs.proofs.runs.collected.forward_utf16.Goals as goal

given-push : (items : List UnitItem) {all : List UnitItem} {w v : Window} {x : UnitItem} → GivesFrontUnits w x v → items ++ unit_pieces_left w ≡ all → (items ++ x ∷ []) ++ unit_pieces_left v ≡ all
given-push items {w} {v} {x} g e = append_assoc items (x ∷ []) (unit_pieces_left v) ∙ sym (ap (λ left. items ++ left) (unit_decoder_listed w (Some x) v g)) ∙ e

given-all : (items : List UnitItem) {all : List UnitItem} {w v : Window} → GivesNone w v → items ++ unit_pieces_left w ≡ all → items ≡ all
given-all items {w} {v} g e = sym (append-nil items) ∙ sym (ap (λ left. items ++ left) (unit_decoder_listed w None v g).0) ∙ e

pub loop-item-preserved : goal.loop-item-preserved
loop-item-preserved g c =
    rw c.in_ok-push.ensures.items (record {
      run = IsUnitRunSoFar-push c.loop-item.invariant.run c.in-Some.ensures.steps;
      all = given-push _ c.in-Some.ensures.steps c.loop-item.invariant.all;
    })

pub returns-clause-value : goal.returns-clause-value
returns-clause-value g c = given-all _ c.in-None.ensures.steps c.loop-item.invariant.all
