use Rattle.std.proofs.Common.{◌≡◌, ◌<◌, ◌≤◌, ◌-◌, ℕ, List, [], ◌++◌, length, take, drop}
use Rattle.std.specs.List.{flat_map}
use Rattle.utf_base.specs.Code.{utf8}
use Rattle.encode_unicode.specs.Sources.{IsListed, unsent}
use Rattle.encode_unicode.proofs.utf8_splitter.Utf8CharSplitter.read.Given as goal

abbrev pub invariant-loop-count : goal.invariant-loop-count
invariant-loop-count g l = record {
  within : l.count ≤ length l.buf;
  can : g.I.Iterator.can_next l.self-inside.source;
  none : l.count < length l.buf → l.self-inside.begun ≡ [];
  after : drop l.count l.buf ≡ drop l.count l.fn.buf;
  same : (rest : g.row.I.Denot → List ℕ) → IsListed g.I.Iterator.next_gives rest
      → take l.count l.buf ++ (l.self-inside.begun ++ flat_map utf8 (rest l.self-inside.source)) ≡ unsent utf8 rest l.fn.self;
}

abbrev pub decreases-loop-count : goal.decreases-loop-count
decreases-loop-count g l = length l.buf - l.count
