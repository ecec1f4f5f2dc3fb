use Rattle.std.proofs.Common.{◌≡◌, ◌+◌, ◌≤◌, length, take, arith, ap₂, sym, ◌∙◌, length-take}
use Rattle.std.proofs.lemmas.List.Sums.{count_by-le-length}
use Rattle.utf_lanes.specs.Starts.{is_start, start_count}
use Rattle.utf_lanes.proofs.StartLemmas.{starts_more}
use Rattle.utf_lanes.proofs.starts.parts_counted.Goals as goal

pub loop-counted-preserved : goal.loop-counted-preserved
loop-counted-preserved c = (omega arith, ap₂ (λ a b. a + b) c.loop-counted.invariant.1 c.part_starts.ensures ∙ sym (starts_more c.args.bytes.now c.loop-counted.counted.place 192))

pub overflow_add-counted-in-loop-counted : goal.overflow_add-counted-in-loop-counted
overflow_add-counted-in-loop-counted c =
    let xs = c.args.bytes.now in
    let place = c.loop-counted.counted.place in
    let count : c.loop-counted.counted.starts + c.part_starts.result ≡ start_count (take (place + 192) xs)
    = ap₂ (λ a b. a + b) c.loop-counted.invariant.1 c.part_starts.ensures ∙ sym (starts_more xs place 192) in
    let few : start_count (take (place + 192) xs) ≤ length (take (place + 192) xs) = count_by-le-length is_start (take (place + 192) xs) in
    omega (arith, length-take (place + 192) xs)
