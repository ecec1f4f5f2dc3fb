use Rattle.std.proofs.Common.{◌+◌, arith, ap₂, sym, ◌∙◌}
use Rattle.utf_lanes.proofs.StartLemmas.{starts_more}
use Rattle.utf_lanes.proofs.starts.counted_up_to.Goals as goal

pub loop-counted-preserved : goal.loop-counted-preserved
loop-counted-preserved c = (
  omega arith,
  ap₂ (λ a b. a + b) c.loop-counted.invariant.1 c.block_starts-more.ensures ∙ sym (starts_more c.args.bytes.now c.loop-counted.counted.place 64),
  omega arith,
)
