use Rattle.std.proofs.Common.{◌-◌, length}
use Rattle.recoding.specs.NextScalars.{utf16_form}
use Rattle.recoding.specs.Replacing.{Recodes, ReplacesUnits}
use Rattle.recoding.specs.declared.way.Way.{Way}
use Rattle.recoding.proofs.kernels.put_windows.Given as goal

abbrev pub invariant-loop-calm : goal.invariant-loop-calm
invariant-loop-calm g l = (way : Way) → ReplacesUnits way → Recodes g.O.Output.appends way (utf16_form g.E.ByteOrder.HIGH_FIRST) g.T.Text.form l.bytes l.fn.out l.out l.read l.replaced

abbrev pub decreases-loop-calm : goal.decreases-loop-calm
decreases-loop-calm g l = length l.bytes - l.read
