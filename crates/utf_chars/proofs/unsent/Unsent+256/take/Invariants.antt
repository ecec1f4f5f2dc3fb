use Rattle.std.proofs.Common.{◌≡◌, ◌≤◌, ◌-◌, ◌++◌, length, take, drop}
use Rattle.utf_chars.proofs.unsent.Unsent+256.take.Given as goal

abbrev pub invariant-loop-count : goal.invariant-loop-count
invariant-loop-count l = record {
  within : l.count ≤ length l.buf;
  after : drop l.count l.buf ≡ drop l.count l.fn.buf;
  same : take l.count l.buf ++ l.self ≡ l.fn.self;
}

abbrev pub decreases-loop-count : goal.decreases-loop-count
decreases-loop-count l = length l.buf - l.count
