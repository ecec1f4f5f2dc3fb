use Rattle.std.proofs.Common.{arith, length-set, ◌∙◌}
use Rattle.std.specs.List.{concat}
use Rattle.text_buffers.proofs.LookupLemmas.{front_more}
use Rattle.text_buffers.proofs.buffers.chunks.Chunks.front_at.Goals as goal

pub loop-front-preserved : goal.loop-front-preserved
loop-front-preserved g c =
    let more = front_more (concat c.args.self.now) c.loop-front.front.bytes c.args.at c.loop-front.front.len c.in-Some.byte (omega (arith, c.loop-front.invariant.3)) c.loop-front.invariant.1 c.in-Some.ensures in
    (omega arith, more.0, more.1, length-set c.loop-front.front.bytes c.loop-front.front.len c.in-Some.byte ∙ c.loop-front.invariant.3)

pub overflow_add-at : goal.overflow_add-at
overflow_add-at g c = omega (arith, c.len-count.ensures.held.small, c.loop-front.invariant.2)
