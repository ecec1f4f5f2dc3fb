use Rattle.std.proofs.Common.{◌≡◌, ◌+◌, ◌-◌, [], arith, refl}
use Rattle.utf_lanes.proofs.TextUnits.{Writes-then, given_more, given_nothing}
use Rattle.utf_lanes.proofs.text_puts.write_rest.Goals as goal

pub loop-place-init : goal.loop-place-init
loop-place-init g c =
    let nothing : c.args.start - c.args.start ≡ 0 = omega arith in
    record {
      least = omega arith;
      within = omega arith;
      fits = omega arith;
      written = record { len = refl; front = rw nothing (given_nothing g.E.ByteOrder.HIGH_FIRST c.args.text.now _ c.args.start) };
    }

pub loop-place-preserved : goal.loop-place-preserved
loop-place-preserved g c =
    let before = c.loop-place.invariant in
    let least = before.least in
    let fits = before.fits in
    let put = c.write_block-end.ensures.written in
    let len = put.len in
    record {
      least = omega arith;
      within = omega arith;
      fits = omega arith;
      written = Writes-then before.written put (given_more g.E.ByteOrder.HIGH_FIRST c.args.text.now [] _ _ c.args.start _ (c.loop-place.place + 0) 16 _ refl refl (omega arith) (omega arith));
    }

pub returns-then-place-text-clause-written : goal.returns-then-place-text-clause-written
returns-then-place-text-clause-written g c =
    Writes-then c.loop-place.invariant.written c.write_block-end-then-place-text.ensures.written
    (given_more g.E.ByteOrder.HIGH_FIRST c.args.text.now [] _ _ c.args.start (c.loop-place.place - c.args.start) _ _ _ refl refl (omega arith) (omega arith))
