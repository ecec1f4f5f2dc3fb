use Rattle.std.proofs.Common.{ℕ, ◌<◌, ◌≤◌, get_or}
use Rattle.std.specs.Int.Bits.{bit_xor}
use Rattle.surveys.proofs.ordinary.OrdinaryAsciiBlockClass.has_all.Given as goal

abbrev pub invariant-loop-byte : goal.invariant-loop-byte
invariant-loop-byte l = (k : ℕ) → k < l.byte-index → l.least ≤ bit_xor (get_or l.bytes k 0) 0x97
