use Rattle.std.proofs.Common.{arith, refl}
use Rattle.recoding.proofs.SwappedRuns.{appends_swapped, length_swapped_front}
use Rattle.recoding.proofs.turned.put_blocks.Goals as goal

pub loop-place-init : goal.loop-place-init
loop-place-init g c = record { within = omega arith; even = refl; appends = g.met.O.Output.appends_none c.args.out.now }

pub put_swapped_block-requires-clause-room : goal.put_swapped_block-requires-clause-room
put_swapped_block-requires-clause-room g c =
    let before = c.loop-place.invariant in
    omega (arith, g.met.O.Output.appends_room _ _ _ before.appends, length_swapped_front c.args.bytes.now c.loop-place.place before.even before.within)

pub loop-place-preserved : goal.loop-place-preserved
loop-place-preserved g c =
    let before = c.loop-place.invariant in
    let even = before.even in
    record {
      within = omega arith;
      even = omega arith;
      appends = appends_swapped g.O.Output.appends g.met.O.Output.appends_more c.args.bytes.now _ _ _ c.loop-place.place g.row.N before.even before.within before.appends c.put_swapped_block.ensures;
    }
