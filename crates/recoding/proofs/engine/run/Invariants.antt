use Rattle.std.proofs.Common.{◌-◌, length}
use Rattle.recoding.specs.Replacing.{Recodes}
use Rattle.recoding.proofs.engine.run.Given as goal

abbrev pub invariant-parts : goal.invariant-parts
invariant-parts g l = Recodes g.O.Output.appends l.way g.S.Text.form g.T.Text.form l.bytes l.fn.out l.out l.read l.replaced

abbrev pub decreases-parts : goal.decreases-parts
decreases-parts g l = length l.bytes - l.read
