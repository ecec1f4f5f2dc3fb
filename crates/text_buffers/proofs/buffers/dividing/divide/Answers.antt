use Rattle.std.proofs.Common.{arith}
use Rattle.text_buffers.proofs.ChunkLists.{divided_none, divided_more, divided_all}
use Rattle.text_buffers.proofs.buffers.dividing.divide.Goals as goal

pub loop-place-init : goal.loop-place-init
loop-place-init g c = rw c.new-chunks.ensures.items (divided_none c.args.bytes.now)

pub loop-place-preserved : goal.loop-place-preserved
loop-place-preserved g c =
    rw c.in_ok-push.ensures.items
    (divided_more c.args.bytes.now c.loop-place.chunks.items c.loop-place.place c.chunk_end-end.result _ c.loop-place.invariant c.chunk_end-end.ensures.some c.chunk_end-end.ensures.within c.chunk_end-end.ensures.few
    c.chunk_end-end.ensures.outside c.in_ok-of.ensures)

pub returns-clause-bytes : goal.returns-clause-bytes
returns-clause-bytes g c = divided_all c.args.bytes.now c.loop-place.chunks.items c.loop-place.place c.loop-place.invariant (omega arith)

pub returns-clause-ends : goal.returns-clause-ends
returns-clause-ends g c = c.loop-place.invariant.ends

pub returns-clause-few : goal.returns-clause-few
returns-clause-few g c = c.loop-place.invariant.few
