use Rattle.std.proofs.Common.{rules, ◌≡◌, ◌<◌, length, drop, min, arith, ap, ap₂, ◌∙◌}
use Rattle.std.proofs.lemmas.List.{drop_all}
use Rattle.recoding.specs.NextScalars.{fault_len}
use Rattle.recoding.specs.Recoded.{Recoding}
use Rattle.recoding.specs.Strict.{lacking}
use Rattle.recoding.proofs.StrictFaults.{tells_first_at_end}
use Rattle.recoding.proofs.StrictSteps.{FinishesStrictly-lacking, FinishesStrictly-none, FinishesStrictly-of}
use Rattle.recoding.proofs.Taking.{held_as}
use Rattle.recoding.proofs.recoder.Recoder.finish_strict_into.Goals as goal

pub returns-then-len-eq0-clause-finishes : goal.returns-then-len-eq0-clause-finishes
returns-then-len-eq0-clause-finishes c =
    FinishesStrictly-none c.args.self.now c.args.room.now (drop_all 0 _ (omega (arith, ap (λ (x : Recoding). length x.held) c.self.view_is)))

pub returns-then-len-eq0-clause-first : goal.returns-then-len-eq0-clause-first
returns-then-len-eq0-clause-first c = tells_first_at_end _ c.args.room.now _ _ _ (returns-then-len-eq0-clause-finishes c)

pub returns-then-held-eq0-clause-finishes : goal.returns-then-held-eq0-clause-finishes
returns-then-held-eq0-clause-finishes c =
    FinishesStrictly-of c.feed_strict_into-progress.ensures.feeds (λ e. drop_all 0 _ (omega (arith, c.if-held-eq0.true, ap (λ (x : Recoding). length x.held) c.self-2.view_is)))

pub returns-then-held-eq0-clause-first : goal.returns-then-held-eq0-clause-first
returns-then-held-eq0-clause-first c = tells_first_at_end _ c.args.room.now _ _ _ (returns-then-held-eq0-clause-finishes c)

pub returns-in_default-clause-finishes : goal.returns-in_default-clause-finishes
returns-in_default-clause-finishes c = FinishesStrictly-of c.feed_strict_into-progress.ensures.feeds (λ e. search rules)

pub returns-in_default-clause-first : goal.returns-in_default-clause-first
returns-in_default-clause-first c = tells_first_at_end _ c.args.room.now _ _ _ (returns-in_default-clause-finishes c)

pub returns-clause-finishes : goal.returns-clause-finishes
returns-clause-finishes c =
    let fed = c.feed_strict_into-progress in
    let kind = c.lacking_fault-kind.ensures.kind ∙ ap lacking (c.forms-from.ensures.from ∙ fed.ensures.feeds.from) in
    let held : c.len-held.result ≡ length fed.new.self.held = c.len-held.ensures.len ∙ ap (λ (x : Recoding). length x.held) c.self-2.view_is in
    let len = c.lacking_fault-kind.ensures.len ∙ ap₂ (λ x n. min (fault_len x) n) (c.forms-from.ensures.from ∙ fed.ensures.feeds.from) held in
    let some : 0 < length fed.new.self.held = omega (arith, held) in
    let dropped = c.drop_front-more.ensures.held ∙ ap (λ (x : Recoding). drop c.lacking_fault-kind.result.1 x.held) c.self-2.view_is in
    rw (c.faulty.ensures, kind, c.len-2.ensures.len) (FinishesStrictly-lacking fed.ensures.feeds c.in-AllRead.is some len (held_as c.self-2.view_is dropped))

pub returns-clause-first : goal.returns-clause-first
returns-clause-first c = tells_first_at_end _ c.args.room.now _ _ _ (returns-clause-finishes c)
