use Rattle.std.proofs.Common.{refl, rules, subst, sym}
use Rattle.recoding.specs.Recoded.{Recoding}
use Rattle.recoding.specs.Replacing.{TakesLast}
use Rattle.recoding.proofs.Taking.{TakesLast-none, TakesLast-piece, held_as}
use Rattle.recoding.proofs.recoder.Recoder.take_last.Goals as goal

pub loop-from-init : goal.loop-from-init
loop-from-init g c =
    let r = c.args.self.now in
    let out = c.args.out.now in
    subst (λ (s : Recoding). TakesLast g.O.Output.appends c.args.way r out out 0 s) (sym c.self.view_is) (TakesLast-none g.met.O.Output.appends_none r)

pub loop-from-preserved : goal.loop-from-preserved
loop-from-preserved g c =
    let i = c.loop-from.self-inside in
    let s : Recoding = record { from = i.from; to = i.to; held = i.held; replaced = i.replaced } in
    let begins = rw c.as_slice.ensures.bytes at c.last_of-first.ensures in
    TakesLast-piece g.met.O.Output.appends_more c.last_of-first.result.c _ _ c.forms-from.ensures.from c.forms-from.ensures.to c.loop-from.invariant begins (c.if-not-is_put.ensures.put (search rules))
    (held_as {r = s} refl c.drop_front-more.ensures.held)
