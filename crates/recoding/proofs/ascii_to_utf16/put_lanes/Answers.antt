use Rattle.std.proofs.Common.{arith}
use Rattle.recoding.proofs.AsciiToUtf16.{appended_twice, widened_more}
use Rattle.recoding.proofs.ascii_to_utf16.put_lanes.Goals as goal

pub loop-place-preserved : goal.loop-place-preserved
loop-place-preserved g c = record {
  within = omega arith;
  appends = rw (widened_more g.E.ByteOrder.HIGH_FIRST c.args.bytes.now c.loop-place.place 16) at (appended_twice g.met.O.Output.appends_more c.loop-place.invariant.appends c.put_16.ensures);
}
