use Rattle.std.proofs.Common.{◌≡◌, ◌≤◌, List, ◌++◌}
use Rattle.std.specs.List.{flat_map}
use Rattle.encode_unicode.specs.Sources.{IsListed}
use Rattle.encode_unicode.proofs.collecting.extend.Given as goal

abbrev pub invariant-loop-c : goal.invariant-loop-c
invariant-loop-c g l = record {
  added : g.T.HoldsCodes.held l.out ≡ g.T.HoldsCodes.held l.fn.out ++ flat_map g.T.HoldsCodes.code l.yielded;
  left : (rest : g.row.I.Denot → List g.row.C.Denot) → IsListed g.I.Iterator.next_gives rest → rest l.fn.source ≡ l.yielded ++ rest l.c-iterator;
  room : g.T.HoldsCodes.room l.fn.out ≤ g.T.HoldsCodes.room l.out;
}
