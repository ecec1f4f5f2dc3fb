use Rattle.std.proofs.Common.{◌-◌, ◌<◌, length}
use Rattle.recoding.specs.Replacing.{Recodes}
use Rattle.recoding.proofs.engine.recode_faults.Given as goal

abbrev pub invariant-loop-read : goal.invariant-loop-read
invariant-loop-read g l = record {
  some : 0 < l.stop;
  runs : Recodes g.O.Output.appends (g.F.Replacing.way l.by) g.S.Text.form g.T.Text.form l.bytes l.fn.out l.out l.read l.replaced;
}

abbrev pub decreases-loop-read : goal.decreases-loop-read
decreases-loop-read g l = length l.bytes - l.read
