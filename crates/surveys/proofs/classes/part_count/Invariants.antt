use Rattle.std.proofs.Common.{◌≡◌, take, count_by}
use Rattle.surveys.proofs.classes.part_count.Given as goal

abbrev pub invariant-loop-byte : goal.invariant-loop-byte
invariant-loop-byte g l = l.count ≡ count_by g.C.ByteClass.class (take l.byte-index l.bytes)
