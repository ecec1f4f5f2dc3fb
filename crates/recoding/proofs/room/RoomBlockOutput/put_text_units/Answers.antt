use Rattle.std.proofs.Common.{rules, length, take, arith, ap, length-append, length-take}
use Rattle.utf_lanes.specs.UnitCodes.{code_at, lane_unit}
use Rattle.utf_lanes.specs.Utf8ToUtf16.{concat_range}
use Rattle.recoding.proofs.room.RoomBlockOutput.put_text_units.Goals as goal

pub returns : goal.returns
returns c =
    let old = c.args.self.now in
    let put = c.write_text_units-self in
    let written = put.ensures in
    let inside = old.within in
    let fits = written.fits in
    record {
      reference = search rules;
      whole = written.len;
      len =
          omega (
            arith,
            ap length written.bytes,
            length-append (take old.len old.bytes.now) (concat_range (code_at (lane_unit c.args.low c.args.high)) 0 c.args.count),
            length-take old.len old.bytes.now,
            length-take put.result put.new.room,
            written.len,
          );
      front = written.bytes;
    }
