use Rattle.std.proofs.Common.{◌-◌, ◌≡◌, ℕ, ◌<◌, ◌≤◌, length, true, get_or}
use Rattle.utf_base.specs.Kinds.{is_continuation}
use Rattle.utf_chars.proofs.codes.utf8_end.continuation_bytes_at_end.Given as goal

abbrev pub invariant-loop-count : goal.invariant-loop-count
invariant-loop-count l =
    (l.count ≤ 3) × (l.count ≤ length l.src) × ((k : ℕ) → k < l.count → is_continuation (get_or l.src (length l.src - 1 - k) 0) ≡ true)

abbrev pub decreases-loop-count : goal.decreases-loop-count
decreases-loop-count l = 3 - l.count
