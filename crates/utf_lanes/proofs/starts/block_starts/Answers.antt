use Rattle.std.proofs.Common.{◌≡◌, ◌+◌, arith, ap₂, sym, ◌∙◌}
use Rattle.utf_lanes.proofs.StartLemmas.{starts_on}
use Rattle.utf_lanes.proofs.starts.block_starts.Goals as goal

pub returns : goal.returns
returns c =
    let place = c.args.place in
    let end : place + 32 + 32 ≡ place + 64 = omega arith in
    ap₂ (λ a b. a + b) c.lane_starts.ensures (rw end at c.lane_starts-2.ensures) ∙ rw end at (sym (starts_on c.args.bytes.now place 32 32))
