use Rattle.std.proofs.Common.{◌≡◌, ℕ, ◌+◌, ◌<◌, ◌≤◌, get_or}
use Rattle.surveys.proofs.twice_counts.most_after_lead.Given as goal

abbrev pub invariant-loop-k : goal.invariant-loop-k
invariant-loop-k l = (k : ℕ) → k < l.k → get_or l.bytes k 0 ≡ 0xC3 → get_or l.bytes (k + 2) 0 ≤ l.most
