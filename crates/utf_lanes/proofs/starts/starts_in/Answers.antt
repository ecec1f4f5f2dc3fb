use Rattle.std.proofs.Common.{◌+◌, drop, ap, ap₂, sym, ◌∙◌}
use Rattle.std.proofs.lemmas.List.{take_rest}
use Rattle.utf_lanes.specs.Starts.{start_count}
use Rattle.utf_lanes.proofs.StartLemmas.{starts_all}
use Rattle.utf_lanes.proofs.starts.starts_in.Goals as goal

pub returns : goal.returns
returns c =
    let xs = c.args.bytes.now in
    let front = c.parts_counted-front.result.place in
    let rest = drop front xs in
    let counted = rw (take_rest xs front) at c.counted_up_to-counted.ensures.starts in
    let place = c.counted_up_to-counted.result.place in
    ap₂ (λ a b. a + b) c.parts_counted-front.ensures.starts
    (ap₂ (λ a b. a + b) counted (rw (take_rest xs front) at c.short_starts.ensures ∙ ap start_count (take_rest rest place)) ∙ sym (starts_all rest place))
    ∙ sym (starts_all xs front)
