use Rattle.std.proofs.Common.{◌≡◌, ◌+◌, ◌-◌, ◌<◌, get_or, arith, lit<}
use Rattle.utf_lanes.proofs.FaultPlaces.{outside_on}
use Rattle.utf_lanes.proofs.MendedTexts.{ascii_between, ascii_ends}
use Rattle.utf_lanes.proofs.mending.mend.Goals as goal

pub put_text-done-requires-clause-text : goal.put_text-done-requires-clause-text
put_text-done-requires-clause-text g c =
    ascii_between c.args.bytes.now c.loop-calm.done.read (omega arith) c.loop-calm.invariant.outside (c.is_ascii_block.ensures.ascii c.if-is_ascii_block.true)

pub loop-calm-preserved-then-is_ascii_block : goal.loop-calm-preserved-then-is_ascii_block
loop-calm-preserved-then-is_ascii_block g c =
    let xs = c.args.bytes.now in
    let read = c.loop-calm.done.read in
    let last : read + 64 - 1 ≡ read + 63 = omega arith in
    let low : get_or xs (read + 64 - 1) 0 < 0x80 = rw last (c.is_ascii_block.ensures.ascii c.if-is_ascii_block.true 63 (lit< tt)) in
    record {
      room = omega arith;
      front = c.put_text-done.ensures.mends;
      outside = rw c.put_text-done.ensures.read (ascii_ends xs (read + 64) (omega arith) (omega arith) low);
      left = omega (arith, c.put_text-done.ensures.read);
    }

pub loop-calm-preserved-then-window-eq0 : goal.loop-calm-preserved-then-window-eq0
loop-calm-preserved-then-window-eq0 g c = record {
  room = omega arith;
  front = c.put_window-done.ensures.mends;
  outside = rw c.put_window-done.ensures.read (outside_on c.args.bytes.now c.loop-calm.done.read (omega arith) c.loop-calm.invariant.outside c.window_at-window.result.len c.window_at-window.ensures.ends);
  left = omega (arith, c.put_window-done.ensures.read, c.window_at-window.ensures.most);
}

pub loop-calm-preserved : goal.loop-calm-preserved
loop-calm-preserved g c = record {
  room = omega arith;
  front = c.put_window-done.ensures.mends;
  outside = rw c.put_window-done.ensures.read (outside_on c.args.bytes.now c.loop-calm.done.read (omega arith) c.loop-calm.invariant.outside c.window_at-window.result.len c.window_at-window.ensures.ends);
  left = omega (arith, c.put_window-done.ensures.read, c.window_at-window.ensures.most);
}
