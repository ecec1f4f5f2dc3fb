use Rattle.std.proofs.Common.{◌+◌, ◌≤◌, length}
use Rattle.examples.proofs.lengths.characters_in_front.Given as goal

abbrev pub invariant-loop-len : goal.invariant-loop-len
invariant-loop-len l = l.count + length l.rest ≤ length l.bytes

abbrev pub decreases-loop-len : goal.decreases-loop-len
decreases-loop-len l = length l.rest
