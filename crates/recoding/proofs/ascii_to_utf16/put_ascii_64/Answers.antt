use Rattle.std.proofs.Common.{take, drop, arith, length-take, length-drop}
use Rattle.recoding.proofs.AsciiToUtf16.{appended_twice, block_widened}
use Rattle.recoding.proofs.ascii_to_utf16.put_ascii_64.Goals as goal

pub returns : goal.returns
returns g c =
    let xs = c.args.bytes.now in
    let p = c.args.place in
    let both = block_widened g.E.ByteOrder.HIGH_FIRST (take 64 (drop p xs)) _ _ 32 (omega (arith, length-take 64 (drop p xs), length-drop p xs)) c.interleave_zeros_wide.ensures.first c.interleave_zeros_wide.ensures.second in
    rw both at (appended_twice g.met.O.Output.appends_more c.put_wide.ensures c.put_wide-2.ensures)
