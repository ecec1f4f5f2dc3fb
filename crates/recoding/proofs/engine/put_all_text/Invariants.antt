use Rattle.std.proofs.Common.{◌-◌, length}
use Rattle.recoding.specs.Strict.{PutsText}
use Rattle.recoding.proofs.engine.put_all_text.Given as goal

abbrev pub invariant-loop-read : goal.invariant-loop-read
invariant-loop-read g l = PutsText g.O.Output.appends g.S.Text.form g.T.Text.form l.bytes l.fn.out l.out l.read

abbrev pub decreases-loop-read : goal.decreases-loop-read
decreases-loop-read g l = length l.bytes - l.read
