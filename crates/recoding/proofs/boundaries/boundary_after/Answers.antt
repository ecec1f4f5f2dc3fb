use Rattle.std.proofs.Common.{arith, length}
use Rattle.recoding.specs.Boundaries.{IsBoundary}
use Rattle.recoding.proofs.LastBoundaries.{last_is_end}
use Rattle.recoding.proofs.UnitEnds.{before_at, none_next, within_end}
use Rattle.recoding.proofs.boundaries.boundary_after.Goals as goal

pub loop-place-smaller : goal.loop-place-smaller
loop-place-smaller c =
    let bytes = c.args.bytes.now in
    let before = c.loop-place.invariant.none in
    let end = c.boundary_before.ensures.end in
    let all = last_is_end c.args.from bytes (length bytes) (omega arith) in
    let lt = within_end (IsBoundary c.args.from bytes) (length bytes) c.loop-place.place c.boundary_before.result before.within c.loop-place-test.true all.outside end.last in
    omega arith

pub loop-place-preserved : goal.loop-place-preserved
loop-place-preserved c =
    let bytes = c.args.bytes.now in
    let before = c.loop-place.invariant.none in
    let end = c.boundary_before.ensures.end in
    let near = c.boundary_before.ensures.near in
    let within = before.within in
    let all = last_is_end c.args.from bytes (length bytes) (omega arith) in
    let lt = within_end (IsBoundary c.args.from bytes) (length bytes) c.loop-place.place c.boundary_before.result before.within c.loop-place-test.true all.outside end.last in
    let early = before_at (IsBoundary c.args.from bytes) (length bytes) c.args.at c.loop-place.place c.boundary_before.result before c.loop-place-test.true end.outside in
    record {
      none = none_next (IsBoundary c.args.from bytes) (length bytes) c.args.at c.loop-place.place c.boundary_before.result before lt c.loop-place-test.true end.last;
      near = omega arith;
    }
