use Rattle.std.proofs.Common.{◌≡◌, take}
use Rattle.std.specs.List.{concat}
use Rattle.text_buffers.specs.Counts.{counts_of}
use Rattle.text_buffers.proofs.buffers.dividing.total.Given as goal

abbrev pub invariant-loop-chunk : goal.invariant-loop-chunk
invariant-loop-chunk g l = l.sum ≡ counts_of (concat (take l.chunk-index l.chunks))
