use Rattle.std.proofs.Common.{◌≡◌, ◌+◌, ◌≤◌, [], ◌∷◌, ◌++◌, length, ap₂, ◌∙◌, arith}
use Rattle.std.proofs.lemmas.Grind.{common_steps}
use Rattle.run_examples.specs.Undo.{Replacement}
use Rattle.run_examples.proofs.UndoLemmas.{edited_can, edited_pasts, way_back}
use Rattle.run_examples.proofs.undo.UndoBuffer.replace.Goals as goal

pub invariant_of-self-2 : goal.invariant_of-self-2
invariant_of-self-2 g c =
    let xs = c.self.inside.text in
    let ways = c.self.inside.ways_back.items in
    let within : c.args.end ≤ length xs = rw (← c.self.view_is) at c.requires.within in
    let place : c.in_ok-now.now ≡ c.args.start + length c.args.new.now = grind (arith, common_steps) in
    let way : record { start = c.args.start; end = c.in_ok-now.now; bytes = c.in_ok-bytes.bytes.items } ≡ way_back xs c.args.start c.args.end c.args.new.now
    = ap₂ (λ n bytes. record { start = c.args.start; end = n; bytes = bytes }) place c.in_ok-bytes.ensures in
    let pushed : c.push.new.self.items ≡ ways ++ way_back xs c.args.start c.args.end c.args.new.now ∷ []
    = rw c.unwrap.ensures at c.push.ensures.items ∙ ap₂ (λ rs (r : Replacement). rs ++ r ∷ []) c.in_ok-reserve.ensures.items way in
    edited_can xs c.replace.new.self c.args.new.now c.args.start c.args.end ways c.push.new.self.items c.requires.ordered within c.in_ok-change.ensures.ok pushed c.self.invariant

pub returns-clause-pasts : goal.returns-clause-pasts
returns-clause-pasts g c =
    let xs = c.self.inside.text in
    let ways = c.self.inside.ways_back.items in
    let within : c.args.end ≤ length xs = rw (← c.self.view_is) at c.requires.within in
    let place : c.in_ok-now.now ≡ c.args.start + length c.args.new.now = grind (arith, common_steps) in
    let way : record { start = c.args.start; end = c.in_ok-now.now; bytes = c.in_ok-bytes.bytes.items } ≡ way_back xs c.args.start c.args.end c.args.new.now
    = ap₂ (λ n bytes. record { start = c.args.start; end = n; bytes = bytes }) place c.in_ok-bytes.ensures in
    let pushed : c.push.new.self.items ≡ ways ++ way_back xs c.args.start c.args.end c.args.new.now ∷ []
    = rw c.unwrap.ensures at c.push.ensures.items ∙ ap₂ (λ rs (r : Replacement). rs ++ r ∷ []) c.in_ok-reserve.ensures.items way in
    rw (← c.self.view_is)
    (edited_pasts xs c.replace.new.self c.args.new.now c.args.start c.args.end ways c.push.new.self.items c.requires.ordered within c.in_ok-change.ensures.ok pushed)
