use Rattle.std.proofs.Common.{◌≡◌, ◌∙◌, ◌+◌, ap, arith, drop, length-drop, subst, sym}
use Rattle.std.proofs.lemmas.List.{drop-drop, take_rest}
use Rattle.text_stream.specs.Located.{told_of}
use Rattle.text_stream.specs.UndecidedEnds.{LocatesFront}
use Rattle.text_stream.proofs.UndecidedLemmas.{LocatesFront-then, end_decided, end_open, front_near_end, one_end}
use Rattle.text_stream.proofs.undecided.undecided_len.Goals as goal

pub loop-place-init : goal.loop-place-init
loop-place-init c =
    let end = c.boundary_before-place.ensures.end in
    (end.within, λ offset. front_near_end c.args.form c.args.bytes.now c.boundary_before-place.result offset (let before = end.before in let most = c.saturating_sub.ensures in omega arith) end.outside)

pub loop-place-smaller : goal.loop-place-smaller
loop-place-smaller c =
    let begins = c.in-Some.ensures.begins in
    let some = begins.some in
    let len = c.len-place.ensures in
    omega arith

pub loop-place-preserved : goal.loop-place-preserved
loop-place-preserved c =
    let bytes = c.args.bytes.now in
    let place = c.loop-place.place in
    let (within, front) = c.loop-place.invariant in
    let x = told_of c.in-Some.front in
    let begins = rw (take_rest bytes place) at c.in-Some.ensures.begins in
    let fits = begins.within in
    let len = c.len-place.ensures in
    let left = length-drop place bytes in
    let on : drop x.1 (drop place bytes) ≡ drop (place + c.len-place.result) bytes = drop-drop x.1 place bytes ∙ ap (λ n. drop (place + n) bytes) (sym len) in
    (omega arith, λ offset. subst (LocatesFront c.args.form offset bytes) on (LocatesFront-then offset (front offset) begins))

pub returns-in_default-clause-end : goal.returns-in_default-clause-end
returns-in_default-clause-end c =
    let bytes = c.args.bytes.now in
    let place = c.loop-place.place in
    let (within, front) = c.loop-place.invariant in
    let rest = take_rest bytes place in
    let left = length-drop place bytes in
    end_open c.args.form bytes place c.loop-place-test.true (rw rest at c.in_default.ensures.few) front (rw rest at c.in_default.ensures.waits (omega arith))

pub returns-in_default-clause-held : goal.returns-in_default-clause-held
returns-in_default-clause-held c = one_end _ _ _ (returns-in_default-clause-end c)

pub returns-clause-end : goal.returns-clause-end
returns-clause-end c =
    let (within, front) = c.loop-place.invariant in
    end_decided _ _ c.loop-place.place c.loop-place-test.false within front

pub returns-clause-held : goal.returns-clause-held
returns-clause-held c = one_end _ _ _ (returns-clause-end c)
