use Rattle.std.proofs.Common.{arith, refl}
use Rattle.recoding.proofs.Forms.{is_utf16}
use Rattle.recoding.proofs.MendedRuns.{Recodes-then-units, Recodes-widened, mends_by}
use Rattle.recoding.proofs.Recodes.{Recodes-none, Recodes-then}
use Rattle.recoding.proofs.kernels.widen_damaged.Goals as goal

pub parts-init : goal.parts-init
parts-init g c = record { room = omega arith; runs = Recodes-none g.met.O.Output.appends_none }

pub returns-then-end-read-ge-LONG : goal.returns-then-end-read-ge-LONG
returns-then-end-read-ge-LONG g c =
    let law = g.met.O.Output.appends_more in
    let end = c.put_next_text-end.ensures in
    let done = c.mend-done.ensures in
    let short = done.mends.short in
    let mended = Recodes-then law c.parts.invariant.runs (Recodes-widened g.E.ByteOrder.HIGH_FIRST (is_utf16 _) (mends_by _ (g.met.F.Windowed.joined c.args.by) (g.met.F.Windowed.windowed c.args.by) done.mends) (omega arith) done.left _ refl c.put_mended.ensures) in
    let runs = Recodes-then law mended c.put_plain-plain.ensures in
    Recodes-then-units law g.E.ByteOrder.HIGH_FIRST (is_utf16 _) runs end.least end.within end.text end.appends

pub parts-preserved : goal.parts-preserved
parts-preserved g c =
    let law = g.met.O.Output.appends_more in
    let end = c.put_next_text-end.ensures in
    let done = c.mend-done.ensures in
    let short = done.mends.short in
    let mended = Recodes-then law c.parts.invariant.runs (Recodes-widened g.E.ByteOrder.HIGH_FIRST (is_utf16 _) (mends_by _ (g.met.F.Windowed.joined c.args.by) (g.met.F.Windowed.windowed c.args.by) done.mends) (omega arith) done.left _ refl c.put_mended.ensures) in
    let runs = Recodes-then law mended c.put_plain-plain.ensures in
    record { room = omega arith; runs = Recodes-then-units law g.E.ByteOrder.HIGH_FIRST (is_utf16 _) runs end.least end.within end.text end.appends }
