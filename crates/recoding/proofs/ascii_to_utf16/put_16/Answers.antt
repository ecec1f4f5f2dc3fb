use Rattle.std.proofs.Common.{take, drop, arith, length-take, length-drop}
use Rattle.recoding.proofs.AsciiToUtf16.{block_widened}
use Rattle.recoding.proofs.ascii_to_utf16.put_16.Goals as goal

pub returns : goal.returns
returns g c =
    let xs = c.args.bytes.now in
    let p = c.args.place in
    let both = block_widened g.E.ByteOrder.HIGH_FIRST (take 16 (drop p xs)) _ _ 8 (omega (arith, length-take 16 (drop p xs), length-drop p xs)) c.interleave_zeros.ensures.first c.interleave_zeros.ensures.second in
    rw both at (rw c.beside.ensures at c.put.ensures)
