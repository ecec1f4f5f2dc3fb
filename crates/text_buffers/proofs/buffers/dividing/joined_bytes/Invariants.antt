use Rattle.std.proofs.Common.{◌≡◌, take}
use Rattle.std.specs.List.{concat}
use Rattle.text_buffers.proofs.buffers.dividing.joined_bytes.Given as goal

abbrev pub invariant-loop-chunk : goal.invariant-loop-chunk
invariant-loop-chunk g l = l.bytes.items ≡ concat (take l.chunk-index l.chunks)
