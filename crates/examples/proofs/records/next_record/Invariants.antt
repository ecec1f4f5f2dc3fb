use Rattle.std.proofs.Common.{◌≡◌, false, ℕ, List, string_bytes}
use Rattle.std.specs.Iterator.{IsFinite, size}
use Rattle.encode_unicode.specs.Mergers.{unread, unread_count}
use Rattle.encode_unicode.specs.Sources.{IsListed}
use Rattle.examples.proofs.RecordLemmas.{IsRecordSoFar}
use Rattle.examples.proofs.records.next_record.Given as goal

abbrev pub invariant-loop-answer : goal.invariant-loop-answer
invariant-loop-answer g l = record {
  can : l.units.ended ≡ false → g.I.Iterator.can_next l.units.source;
  ends : IsFinite (unread_count g.I.Iterator.remaining l.units);
  taken : (rest : g.row.I.Denot → List ℕ) → IsListed g.I.Iterator.next_gives rest → IsRecordSoFar (unread rest l.fn.units) (string_bytes l.text) (unread rest l.units);
}

abbrev pub decreases-loop-answer : goal.decreases-loop-answer
decreases-loop-answer g l = size (unread_count g.I.Iterator.remaining l.units)
