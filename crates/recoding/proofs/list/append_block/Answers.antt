use Rattle.std.proofs.Common.{arith}
use Rattle.utf_lanes.proofs.JudgedUnits.{ascii_text, ascii_codes}
use Rattle.recoding.proofs.list.append_block.Goals as goal

pub returns-then-are_ascii : goal.returns-then-are_ascii
returns-then-are_ascii g c =
    let ascii = c.are_ascii.ensures c.if-are_ascii.true in
    record {
      most = omega arith;
      text = ascii_text c.args.low c.args.high c.fits-low.0 ascii;
      appended = rw (ascii_codes c.args.low c.args.high c.fits-low.0 ascii) at c.put.ensures;
    }
