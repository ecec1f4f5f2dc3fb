use Rattle.std.proofs.Common.{rules, ◌≡◌, ◌≤◌, take, drop, length, arith, ◌∙◌, ap, length-drop, length-take}
use Rattle.std.proofs.lemmas.List.{take_all, take_rest}
use Rattle.recoding.specs.Recoded.{Lacks}
use Rattle.recoding.specs.Replacing.{BeginsBy}
use Rattle.recoding.proofs.Recodes.{Reaches-full, Reaches-on, Reaches-waiting, Recodes-code, Recodes-none}
use Rattle.recoding.proofs.engine.recode_within.Goals as goal

pub loop-read-init : goal.loop-read-init
loop-read-init g c = Recodes-none g.met.O.Output.appends_none

pub loop-read-preserved : goal.loop-read-preserved
loop-read-preserved g c =
    let window = c.first_four.ensures ∙ ap (take 4) (take_rest c.args.bytes.now c.loop-read.read) in
    let first = c.in-Some.first in
    let begins : BeginsBy c.args.way c.args.from (take 4 (drop c.loop-read.read c.args.bytes.now)) first.c first.len first.faults = rw window at c.in-Some.ensures.some in
    Recodes-code g.met.O.Output.appends_more first.c c.loop-read.invariant begins (c.if-not-put_shown.ensures.put (search rules))

pub returns-in_default-clause-reaches : goal.returns-in_default-clause-reaches
returns-in_default-clause-reaches g c =
    let xs = drop c.loop-read.read c.args.bytes.now in
    let window : c.first_four.result.now ≡ take 4 xs = c.first_four.ensures ∙ ap (take 4) (take_rest c.args.bytes.now c.loop-read.read) in
    let few : length (take 4 xs) ≤ 3 = rw window at c.in_default.ensures.few in
    let all : take 4 xs ≡ xs = take_all 4 xs (omega (arith, few, length-take 4 xs)) in
    let lacks : Lacks c.args.from xs = rw (window ∙ all) at c.in_default.ensures.lacks in
    rw c.ended.ensures (Reaches-waiting c.loop-read.invariant (omega (arith, few, length-take 4 xs, length-drop c.loop-read.read c.args.bytes.now)) lacks)

pub returns-then-not-put_shown-clause-reaches : goal.returns-then-not-put_shown-clause-reaches
returns-then-not-put_shown-clause-reaches g c =
    let window = c.first_four.ensures ∙ ap (take 4) (take_rest c.args.bytes.now c.loop-read.read) in
    let first = c.in-Some.first in
    let begins : BeginsBy c.args.way c.args.from (take 4 (drop c.loop-read.read c.args.bytes.now)) first.c first.len first.faults = rw window at c.in-Some.ensures.some in
    let put = c.if-not-put_shown.ensures in
    rw c.ended-then-not-put_shown.ensures (Reaches-full first.c c.loop-read.invariant (put.kept (search rules)) begins (put.full (search rules)) (put.short (search rules)))

pub returns-clause-reaches : goal.returns-clause-reaches
returns-clause-reaches g c = rw c.ended-2.ensures (Reaches-on c.loop-read.invariant)
