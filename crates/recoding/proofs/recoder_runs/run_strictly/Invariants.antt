use Rattle.std.proofs.Common.{◌-◌, ◌++◌, length}
use Rattle.recoding.specs.Strict.{PutsText}
use Rattle.recoding.proofs.recoder_runs.run_strictly.Given as goal

abbrev pub invariant-loop-read : goal.invariant-loop-read
invariant-loop-read g l = PutsText g.O.Output.appends l.from l.to (l.held ++ l.part) l.fn.out l.out l.read

abbrev pub decreases-loop-read : goal.decreases-loop-read
decreases-loop-read g l = length l.held - l.read
