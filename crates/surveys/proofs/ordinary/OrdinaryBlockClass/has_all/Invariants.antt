use Rattle.std.proofs.Common.{ℕ, ◌<◌, ◌≤◌, bit_or, get_or}
use Rattle.std.specs.Int.Bits.{bit_xor}
use Rattle.surveys.proofs.ordinary.OrdinaryBlockClass.has_all.Given as goal

abbrev pub invariant-loop-byte : goal.invariant-loop-byte
invariant-loop-byte l = (k : ℕ) → k < l.byte-index → (l.least ≤ bit_xor (get_or l.bytes k 0) 0x17) × (bit_or (get_or l.bytes k 0) 0x20 ≤ l.most)
