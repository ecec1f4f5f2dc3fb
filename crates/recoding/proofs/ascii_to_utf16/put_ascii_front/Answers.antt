use Rattle.std.proofs.Common.{◌+◌, arith}
use Rattle.recoding.proofs.AsciiToUtf16.{appended_twice, widened_more}
use Rattle.utf_lanes.proofs.LaneLemmas.{ascii_block, ascii_on}
use Rattle.recoding.proofs.ascii_to_utf16.put_ascii_front.Goals as goal

pub loop-place-init : goal.loop-place-init
loop-place-init g c = record {
  within = omega arith;
  ascii = ascii_block c.args.bytes.now 0 (c.is_ascii_block.ensures.ascii c.if-not-is_ascii_block.false);
  appends = g.met.O.Output.appends_none _;
}

pub loop-place-preserved : goal.loop-place-preserved
loop-place-preserved g c =
    let xs = c.args.bytes.now in
    let place = c.loop-place.place in
    let next = ascii_block xs (place + 64) (c.is_ascii_block-in-loop-place.ensures.ascii c.if-is_ascii_block.true) in
    record {
      within = omega arith;
      ascii = ascii_on xs 0 (place + 64) (place + 64 + 64) c.loop-place.invariant.ascii next;
      appends = rw (widened_more g.E.ByteOrder.HIGH_FIRST xs place 64) at (appended_twice g.met.O.Output.appends_more c.loop-place.invariant.appends c.put_ascii_64.ensures);
    }
