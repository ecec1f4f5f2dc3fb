use Rattle.std.proofs.Common.{ap, sym, ◌∙◌}
use Rattle.std.proofs.lemmas.Iterator.{items_from_drains}
use Rattle.std.proofs.lemmas.Iterator.Adapters.{YieldsList-from_vec}
use Rattle.std.proofs.lemmas.List.{map-id}
use Rattle.std.specs.List.{splice}
use Rattle.text_buffers.proofs.buffers.edits.put_chunks.Goals as goal

pub returns-clause-ok : goal.returns-clause-ok
returns-clause-ok g c =
    let f = c.in_ok-splice.ensures.items in
    let xs = f.1 in
    let gives = f.2 in
    let drains = f.3 in
    let all = items_from_drains xs (drains.1.0, drains.1.1, λ w. (drains.0, drains.1.2)) (YieldsList-from_vec {s = f.0} c.args.made.items gives.0 (gives.1 ∙ c.args.made.ok.0)) in
    f.4 ∙ ap (splice c.args.chunks.now.items c.args.start c.args.end) (sym (map-id xs) ∙ all)
