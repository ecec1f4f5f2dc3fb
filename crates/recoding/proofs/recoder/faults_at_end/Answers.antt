use Rattle.std.proofs.Common.{◌≡◌, [], drop, arith, length-drop}
use Rattle.std.proofs.lemmas.List.{take_rest, drop_all, drop-drop}
use Rattle.recoding.specs.declared.way.Way.TheVariants.{Faults}
use Rattle.recoding.specs.Replacing.{BeginsLast}
use Rattle.recoding.proofs.Becoming.{ends_some, ends_within}
use Rattle.recoding.proofs.FaultCounts.{none_in_nothing}
use Rattle.recoding.proofs.recoder.faults_at_end.Goals as goal

pub loop-place-preserved : goal.loop-place-preserved
loop-place-preserved c =
    let bytes = c.args.bytes.now in
    let place = c.loop-place.place in
    let first = c.last_of-first.result in
    let d : BeginsLast Faults c.args.from (drop place bytes) first.c first.len first.faults = rw (take_rest bytes place) at c.last_of-first.ensures in
    let within = ends_within d in
    let some = ends_some d in
    let v = c.loop-place.invariant in
    let few = d.few in
    let counted = v.faults in
    record {
      within = omega (arith, length-drop place bytes);
      few = omega (arith, v.few);
      faults = omega (arith, counted, rw (drop-drop first.len place bytes) at d.counts);
    }

pub returns : goal.returns
returns c =
    let rest : drop c.loop-place.place c.args.bytes.now ≡ [] = drop_all c.loop-place.place c.args.bytes.now (omega arith) in
    omega (arith, rw rest at c.loop-place.invariant.faults, none_in_nothing c.args.from)
