use Rattle.std.proofs.Common.{◌≡◌, ◌+◌, ◌-◌, arith}
use Rattle.surveys.proofs.OrdinaryBytes.{all_on}
use Rattle.surveys.proofs.ordinary.class_end.Goals as goal

pub loop-place-preserved : goal.loop-place-preserved
loop-place-preserved g c =
    let place = c.loop-place.place in
    let width : place + 256 - place ≡ 256 = omega arith in
    let block = rw width at (c.has_all.ensures c.if-not-has_all.false) in
    record {
      least = omega (arith, c.loop-place.invariant.least);
      within = omega (arith, c.loop-place-test.true, c.loop-place.invariant.within);
      blocks = omega (arith, c.loop-place.invariant.least, c.loop-place.invariant.blocks);
      class = all_on g.C.BlockClass.class c.args.bytes.now c.args.start place 256 c.loop-place.invariant.class block (omega (arith, c.loop-place-test.true, c.loop-place.invariant.within));
    }
