use Rattle.std.proofs.Common.{◌-◌, length}
use Rattle.recoding.specs.Strict.{PutsText}
use Rattle.recoding.proofs.recoder_runs.run_by_pieces.Given as goal

abbrev pub invariant-pieces : goal.invariant-pieces
invariant-pieces g l = PutsText g.O.Output.appends l.from l.to l.bytes l.fn.out l.out l.read

abbrev pub decreases-pieces : goal.decreases-pieces
decreases-pieces g l = length l.bytes - l.read
