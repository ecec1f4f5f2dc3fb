use Rattle.std.proofs.Common.{◌-◌}
use Rattle.text_runs.proofs.BoundaryLemmas.{NoneOver}
use Rattle.text_runs.proofs.boundaries.code_over.Given as goal

abbrev pub invariant-loop-start : goal.invariant-loop-start
invariant-loop-start l = NoneOver l.bytes l.place (l.place - 3) l.start
