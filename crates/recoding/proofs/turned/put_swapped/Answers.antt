use Rattle.std.proofs.Common.{◌≡◌, ◌+◌, ◌-◌, take, drop, length, arith, length-take, length-drop}
use Rattle.std.proofs.lemmas.List.{take_all, take_rest}
use Rattle.recoding.proofs.SwappedRuns.{appends_swapped, appends_swapped_rest, length_swapped_front}
use Rattle.recoding.proofs.turned.put_swapped.Goals as goal

pub put_blocks-place-requires-clause-room : goal.put_blocks-place-requires-clause-room
put_blocks-place-requires-clause-room g c =
    let bytes = c.args.bytes.now in
    let wide = c.put_blocks-wide.result in
    let first = c.put_blocks-wide.ensures in
    omega (arith, g.met.O.Output.appends_room _ _ _ first.appends, length_swapped_front bytes wide first.even first.within, length-drop wide bytes, length-take (length bytes - wide) (drop wide bytes))

pub put_last-requires-clause-room : goal.put_last-requires-clause-room
put_last-requires-clause-room g c =
    let bytes = c.args.bytes.now in
    let wide = c.put_blocks-wide.result in
    let first = c.put_blocks-wide.ensures in
    let place = c.put_blocks-place.result in
    let second = c.put_blocks-place.ensures in
    let rest = take (length bytes - wide) (drop wide bytes) in
    omega (
      arith,
      g.met.O.Output.appends_room _ _ _ first.appends,
      length_swapped_front bytes wide first.even first.within,
      length-drop wide bytes,
      length-take (length bytes - wide) (drop wide bytes),
      g.met.O.Output.appends_room _ _ _ second.appends,
      length_swapped_front rest place second.even second.within,
    )

pub returns-then-bytes-lt16 : goal.returns-then-bytes-lt16
returns-then-bytes-lt16 g c =
    let put = c.put_blocks.ensures in
    let even = put.even in
    rw (take_all c.put_blocks.result c.args.bytes.now (omega arith)) at put.appends

pub returns : goal.returns
returns g c =
    let bytes = c.args.bytes.now in
    let wide = c.put_blocks-wide.result in
    let place = c.put_blocks-place.result in
    let first = c.put_blocks-wide.ensures in
    let blocks = rw (take_rest bytes wide) at c.put_blocks-place.ensures.appends in
    let within = first.within in
    let more = c.put_blocks-place.ensures.within in
    let even = first.even in
    let pairs = c.put_blocks-place.ensures.even in
    let left = length-drop wide bytes in
    let at : length bytes - (length (drop wide bytes) - place) ≡ wide + place = omega arith in
    let front = appends_swapped g.O.Output.appends g.met.O.Output.appends_more bytes _ _ _ wide place even within first.appends blocks in
    appends_swapped_rest g.O.Output.appends g.met.O.Output.appends_more bytes _ _ _ (wide + place) (omega arith) (omega arith) front (rw at at (rw (take_rest bytes wide) at c.put_last.ensures))
