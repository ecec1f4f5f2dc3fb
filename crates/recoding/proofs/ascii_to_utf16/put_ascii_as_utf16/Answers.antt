use Rattle.std.proofs.Common.{◌-◌, length, drop, arith, length-take, length-drop}
use Rattle.std.proofs.lemmas.List.{take_rest}
use Rattle.recoding.proofs.AsciiToUtf16.{appended_twice, widened_rest, few_widened}
use Rattle.recoding.proofs.ascii_to_utf16.put_ascii_as_utf16.Goals as goal

pub put_each-requires : goal.put_each-requires
put_each-requires g c =
    let bytes = c.args.bytes.now in
    let place = c.put_lanes-place.result in
    omega (arith, g.met.O.Output.appends_room _ _ _ c.put_lanes-place.ensures.appends, few_widened g.E.ByteOrder.HIGH_FIRST bytes place, length-take (length bytes - place) (drop place bytes), length-drop place bytes)

pub returns : goal.returns
returns g c =
    let bytes = c.args.bytes.now in
    let place = c.put_lanes-place.result in
    rw (widened_rest g.E.ByteOrder.HIGH_FIRST bytes place) at (appended_twice g.met.O.Output.appends_more c.put_lanes-place.ensures.appends (rw (take_rest bytes place) at c.put_each.ensures))
