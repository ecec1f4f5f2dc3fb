use Rattle.std.proofs.Common.{[], arith, refl}
use Rattle.utf_lanes.proofs.TextUnits.{Writes-then, given_more, given_nothing}
use Rattle.recoding.proofs.utf8_to_utf16.write_wide.Goals as goal

pub loop-place-init : goal.loop-place-init
loop-place-init g c = record {
  least = omega arith;
  within = omega arith;
  written = record { len = refl; front = given_nothing _ c.args.text.now _ 16 };
  most = omega arith;
}

pub loop-place-preserved : goal.loop-place-preserved
loop-place-preserved g c =
    let before = c.loop-place.invariant in
    let least = before.least in
    let most = before.most in
    let put = c.write_some-end.ensures in
    let len = before.written.len in
    record {
      least = omega arith;
      within = omega arith;
      written = Writes-then before.written put.written (given_more _ c.args.text.now [] _ _ 16 _ c.loop-place.place 64 _ refl refl (omega arith) (omega arith));
      most = omega (arith, put.most);
    }
