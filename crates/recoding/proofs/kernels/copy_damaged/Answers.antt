use Rattle.std.proofs.Common.{arith}
use Rattle.recoding.proofs.MendedRuns.{Recodes-mended, Recodes-then-text, mends_by}
use Rattle.recoding.proofs.Recodes.{Recodes-none, Recodes-then}
use Rattle.recoding.proofs.kernels.copy_damaged.Goals as goal

pub parts-init : goal.parts-init
parts-init g c = record { room = omega arith; runs = Recodes-none g.met.O.Output.appends_none }

pub returns-then-end-place-ge-LONG : goal.returns-then-end-place-ge-LONG
returns-then-end-place-ge-LONG g c =
    let law = g.met.O.Output.appends_more in
    let end = c.next_text_end-end.ensures in
    let done = c.mend-done.ensures in
    Recodes-then-text law (Recodes-then law c.parts.invariant.runs (Recodes-mended (mends_by _ (g.met.F.Windowed.joined c.args.by) (g.met.F.Windowed.windowed c.args.by) done.mends) (omega arith) done.left c.put.ensures)) end.least end.within end.text c.put-in-parts.ensures

pub parts-preserved : goal.parts-preserved
parts-preserved g c =
    let law = g.met.O.Output.appends_more in
    let end = c.next_text_end-end.ensures in
    let done = c.mend-done.ensures in
    record {
      room = omega arith;
      runs = Recodes-then-text law (Recodes-then law c.parts.invariant.runs (Recodes-mended (mends_by _ (g.met.F.Windowed.joined c.args.by) (g.met.F.Windowed.windowed c.args.by) done.mends) (omega arith) done.left c.put.ensures)) end.least end.within end.text c.put-in-parts.ensures;
    }
