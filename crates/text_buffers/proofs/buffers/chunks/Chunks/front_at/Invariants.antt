use Rattle.std.proofs.Common.{◌≡◌, ◌+◌, ◌-◌, ◌≤◌, length, take, drop}
use Rattle.std.specs.List.{concat}
use Rattle.text_buffers.proofs.buffers.chunks.Chunks.front_at.Given as goal

abbrev pub invariant-loop-front : goal.invariant-loop-front
invariant-loop-front g l =
    (l.front.len ≤ 4) × (take l.front.len l.front.bytes ≡ take l.front.len (drop l.at (concat l.self))) × (l.at + l.front.len ≤ length (concat l.self)) × (length l.front.bytes ≡ 4)

abbrev pub decreases-loop-front : goal.decreases-loop-front
decreases-loop-front g l = 4 - l.front.len
