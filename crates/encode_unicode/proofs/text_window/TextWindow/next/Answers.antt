use Rattle.std.proofs.Common.{◌≡◌, ◌∙◌, ap, sym}
use Rattle.std.specs.Prelude.{slice_range}
use Rattle.encode_unicode.specs.Window.{elements}
use Rattle.encode_unicode.proofs.TextLemmas.{first_taken}
use Rattle.encode_unicode.proofs.text_window.TextWindow.next.Goals as goal

pub invariant_of-self : goal.invariant_of-self
invariant_of-self c =
    let text : c.as_str.result.now ≡ slice_range c.self.inside.text.now c.self.inside.front c.self.inside.back = c.as_str.ensures.text ∙ ap elements (sym c.self.view_is) in
    (first_taken c.self.invariant (rw text at c.in-Ok.ensures.begins)).1

pub returns-in-Ok : goal.returns-in-Ok
returns-in-Ok c =
    let text : c.as_str.result.now ≡ slice_range c.self.inside.text.now c.self.inside.front c.self.inside.back = c.as_str.ensures.text ∙ ap elements (sym c.self.view_is) in
    let taken = first_taken c.self.invariant (rw text at c.in-Ok.ensures.begins) in
    rw (← c.self.view_is) (record { gives = taken.0; shorter = taken.2 })
