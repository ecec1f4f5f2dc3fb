use Rattle.std.proofs.Common.{arith}
use Rattle.utf_lanes.specs.UnitCodes.{lane_unit}
use Rattle.recoding.proofs.MendedUnitRuns.{PutsLanes-utf8}
use Rattle.recoding.proofs.kernels.Utf8TakesUnits.put_mended.Goals as goal

pub returns : goal.returns
returns g c =
    let units = c.args.units in
    let text = c.requires.text in
    let most = text.most in
    PutsLanes-utf8 (lane_unit units.low units.high) units.len (λ k lt. let low = text.low_fits k (omega arith) in let high = text.high_fits k (omega arith) in omega arith) text.text c.put_text_units.ensures
