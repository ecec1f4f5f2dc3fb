use Rattle.std.proofs.Common.{take}
use Rattle.utf_base.specs.Walk.{utf8_bytes}
use Rattle.text_runs.proofs.WalkLemmas.{IsWalkSoFar}
use Rattle.text_runs.proofs.runs.walks.walk_utf8.Given as goal

abbrev pub invariant-loop-end : goal.invariant-loop-end
invariant-loop-end g l = IsWalkSoFar utf8_bytes l.src (take l.end-index l.word) l.answers.items l.decoder
