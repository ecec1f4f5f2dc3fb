use Rattle.std.proofs.Common.{◌≡◌, ◌+◌, ◌≤◌, length, take, arith, ap, ap₂, sym, ◌∙◌, length-take}
use Rattle.std.proofs.lemmas.List.{take_rest}
use Rattle.std.proofs.lemmas.List.Sums.{count_by-le-length}
use Rattle.utf_lanes.specs.Starts.{is_start, start_count}
use Rattle.utf_lanes.proofs.StartLemmas.{starts_all, starts_more}
use Rattle.utf_lanes.proofs.starts.short_starts.Goals as goal

pub loop-place-preserved : goal.loop-place-preserved
loop-place-preserved c =
    let xs = c.args.bytes.now in
    let place = c.loop-place.place in
    let count : c.loop-place.starts + c.lane_starts-starts.result ≡ start_count (take (place + 16) xs)
    = ap₂ (λ a b. a + b) c.loop-place.invariant.1 c.lane_starts-starts.ensures ∙ sym (starts_more xs place 16) in
    let few : start_count (take (place + 16) xs) ≤ length (take (place + 16) xs) = count_by-le-length is_start (take (place + 16) xs) in
    (omega arith, count, omega (arith, length-take (place + 16) xs))

pub returns : goal.returns
returns c =
    let xs = c.args.bytes.now in
    let place = c.loop-place.place in
    ap₂ (λ a b. a + b) c.loop-place.invariant.1 (c.few_starts.ensures ∙ ap start_count (take_rest xs place)) ∙ sym (starts_all xs place)
