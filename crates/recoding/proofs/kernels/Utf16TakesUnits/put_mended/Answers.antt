use Rattle.std.proofs.Common.{arith, subst}
use Rattle.recoding.proofs.Forms.{is_utf16}
use Rattle.recoding.proofs.MendedUnitRuns.{PutsLanes-units, front_of_halves}
use Rattle.recoding.proofs.kernels.Utf16TakesUnits.put_mended.Goals as goal

pub returns : goal.returns
returns g c =
    let units = c.args.units in
    let text = c.requires.text in
    let least = text.least in
    let most = text.most in
    let high = g.W.ByteOrder.HIGH_FIRST in
    let bytes = c.interleaved.ensures in
    let whole = front_of_halves high units.low units.high _ _ units.len (omega arith) most bytes.first bytes.second in
    PutsLanes-units high _ units.low units.high units.len (is_utf16 high) (λ k lt. text.low_fits k (omega arith)) (λ k lt. text.high_fits k (omega arith)) text.text
    (subst (λ xs. g.O.Output.appends c.args.out.now xs c.put-2.new.self) whole (g.met.O.Output.appends_more _ _ _ _ _ c.put.ensures c.put-2.ensures))
