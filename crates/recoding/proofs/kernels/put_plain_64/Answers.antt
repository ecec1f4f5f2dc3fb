use Rattle.std.proofs.Common.{sym}
use Rattle.recoding.proofs.PlainRuns.{window_units}
use Rattle.recoding.proofs.kernels.put_plain_64.Goals as goal

pub returns : goal.returns
returns g c =
    let units = c.plain_units.ensures in
    rw (sym (window_units g.E.ByteOrder.HIGH_FIRST c.args.bytes.now c.plain_units.result.0 c.plain_units.result.1 units.first units.second)) (g.met.O.Output.appends_more _ _ _ _ _ c.put_wide.ensures c.put_wide-2.ensures)
