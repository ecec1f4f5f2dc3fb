use Rattle.std.proofs.Common.{rules, length, take, arith, ap, length-append, length-take}
use Rattle.utf_lanes.specs.Utf8ToUtf16.{utf16_bytes}
use Rattle.recoding.proofs.room.RoomBlockOutput.put_units.Goals as goal

pub returns : goal.returns
returns g c =
    let old = c.args.self.now in
    let text = c.args.text.now in
    let put = c.widen_text-self in
    let written = put.ensures.written in
    let inside = old.within in
    record {
      reference = search rules;
      whole = written.len;
      len =
          omega (
            arith,
            ap length written.front,
            length-append (take old.len old.bytes.now) (utf16_bytes g.E.ByteOrder.HIGH_FIRST text 0 (length text)),
            length-take old.len old.bytes.now,
            length-take put.result put.new.room,
            written.len,
            put.ensures.within,
          );
      front = written.front;
    }
