use Rattle.std.proofs.Common.{◌-◌, length}
use Rattle.text_buffers.proofs.ChunkLists.{Divided}
use Rattle.text_buffers.proofs.buffers.dividing.divide.Given as goal

abbrev pub invariant-loop-place : goal.invariant-loop-place
invariant-loop-place g l = Divided l.bytes l.chunks.items l.place

abbrev pub decreases-loop-place : goal.decreases-loop-place
decreases-loop-place g l = length l.bytes - l.place
