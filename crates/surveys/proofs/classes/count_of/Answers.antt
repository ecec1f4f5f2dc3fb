use Rattle.std.proofs.Common.{◌≡◌, ◌∙◌, ◌+◌, ◌-◌, count_by, take, drop, arith, ap, ap₂, sym}
use Rattle.std.proofs.Math.Seq.{take-add}
use Rattle.std.proofs.lemmas.List.{take-append-drop, take_rest}
use Rattle.surveys.proofs.ClassCounts.{counted_append}
use Rattle.surveys.proofs.classes.count_of.Goals as goal

pub loop-place-preserved : goal.loop-place-preserved
loop-place-preserved g c =
    let p = g.C.ByteClass.class in
    let xs = c.args.bytes.now in
    let place = c.loop-place.place in
    let width : place + 192 - place ≡ 192 = omega arith in (
      omega arith,
      ap₂ (λ a b. a + b) c.loop-place.invariant.1 (rw width at c.part_count.ensures)
          ∙ sym (ap (count_by p) (take-add place 192 xs) ∙ counted_append p (take place xs) (take 192 (drop place xs))),
    )

pub returns : goal.returns
returns g c =
    let p = g.C.ByteClass.class in
    let xs = c.args.bytes.now in
    let place = c.loop-place.place in
    let last : c.part_count-2.result ≡ count_by p (drop place xs) = c.part_count-2.ensures ∙ ap (count_by p) (take_rest xs place) in
    ap₂ (λ a b. a + b) c.loop-place.invariant.1 last ∙ sym (ap (count_by p) (sym (take-append-drop place xs)) ∙ counted_append p (take place xs) (drop place xs))
