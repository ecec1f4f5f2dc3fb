use Rattle.std.proofs.Common.{◌≡◌, ◌+◌, ◌∙◌, ◌%◌, Bool, nat_eq, arith, ap, sym, refl}
use Rattle.std.specs.Prelude.{◌&&◌}
use mir.Val.{bool_byte}
use Rattle.utf_lanes.specs.UnitStarts.{ends_pair}
use Rattle.utf_lanes.proofs.UnitStartLemmas.{places_told, told_few}
use Rattle.utf_lanes.proofs.unit_starts.block_pairs.Goals as goal

pub loop-i-preserved : goal.loop-i-preserved
loop-i-preserved c =
    let i = c.loop-i.i in
    let test = ends_pair c.args.high c.args.bytes.now c.args.place in
    let told : Bool = nat_eq (i % 2) c.args.high && c.are_pair.result in
    let is : told ≡ test i = rw c.are_pair.ensures refl in
    let few = told_few told in (
      ap (λ n. n + bool_byte told) c.loop-i.invariant.0 ∙ sym (places_told test i told is),
      omega (arith, few, c.loop-i.invariant.1),
    )

pub returns-clause-pairs : goal.returns-clause-pairs
returns-clause-pairs c =
    let at : c.loop-i.i ≡ 64 = omega (arith, c.loop-i-test.false, c.loop-i.auto.i-end) in
    rw at at c.loop-i.invariant.0
