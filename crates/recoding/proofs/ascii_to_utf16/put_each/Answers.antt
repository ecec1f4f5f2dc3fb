use Rattle.std.proofs.Common.{arith}
use Rattle.recoding.proofs.AsciiToUtf16.{appended_twice, widened_more, widened_one}
use Rattle.recoding.proofs.ascii_to_utf16.put_each.Goals as goal

pub loop-place-preserved : goal.loop-place-preserved
loop-place-preserved g c = record {
  within = omega arith;
  appends =
      rw (widened_more g.E.ByteOrder.HIGH_FIRST c.args.bytes.now c.loop-place.place 1) at (appended_twice g.met.O.Output.appends_more c.loop-place.invariant.appends
      (rw (widened_one g.E.ByteOrder.HIGH_FIRST c.args.bytes.now c.loop-place.place c.loop-place-test.true) at c.put_one.ensures));
}
