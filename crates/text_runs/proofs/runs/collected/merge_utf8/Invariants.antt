use Rattle.std.proofs.Common.{ℕ, List}
use Rattle.utf_base.specs.Code.{utf8}
use Rattle.utf_base.specs.Kinds.{merger_kind}
use Rattle.encode_unicode.specs.Mergers.{unread}
use Rattle.encode_unicode.specs.Sources.{IsListed}
use Rattle.text_runs.proofs.MergedRuns.{IsMergedSoFar}
use Rattle.text_runs.proofs.runs.collected.merge_utf8.Given as goal

abbrev pub invariant-loop-answer : goal.invariant-loop-answer
invariant-loop-answer g l = (rest : g.row.I.Denot → List ℕ) → IsListed g.I.Iterator.next_gives rest
    → IsMergedSoFar utf8 merger_kind (rest l.fn.source) l.all.items (unread rest l.answer-iterator)
