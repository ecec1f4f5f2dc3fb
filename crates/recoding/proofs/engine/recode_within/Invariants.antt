use Rattle.std.proofs.Common.{◌-◌, length}
use Rattle.recoding.specs.Replacing.{Recodes}
use Rattle.recoding.proofs.engine.recode_within.Given as goal

abbrev pub invariant-loop-read : goal.invariant-loop-read
invariant-loop-read g l = Recodes g.O.Output.appends l.way l.from l.to l.bytes l.fn.out l.out l.read l.replaced

abbrev pub decreases-loop-read : goal.decreases-loop-read
decreases-loop-read g l = length l.bytes - l.read
