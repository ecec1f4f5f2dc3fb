use Rattle.std.proofs.Common.{take}
use Rattle.utf_base.specs.Walk.{utf16_units}
use Rattle.text_runs.proofs.WalkLemmas.{IsWalkSoFar}
use Rattle.text_runs.proofs.runs.walks.walk_utf16.Given as goal

abbrev pub invariant-loop-end : goal.invariant-loop-end
invariant-loop-end g l = IsWalkSoFar utf16_units l.src (take l.end-index l.word) l.answers.items l.units
