use Rattle.std.proofs.Common.{refl}
use Rattle.std.specs.Prelude.{◌≢◌}
use Rattle.examples.proofs.TokenLemmas.{tokens_other, tokens_fault, tokens_push, tokens_all, shown_push}
use Rattle.examples.proofs.tokens.tokens.Goals as goal

pub loop-place-preserved-then-eq_u8 : goal.loop-place-preserved-then-eq_u8
loop-place-preserved-then-eq_u8 g c =
    let shown = shown_push _ _ _ c.in_ok-push.ensures.items in
    let more = tokens_push c.in-Ok.c c.requires c.loop-place.invariant c.in-Some.ensures.steps c.in-Ok.is (c.if-eq_u8.ensures.equal.0 refl).1 refl in
    rw (shown, c.in-Some.ensures.steps.place) more

pub loop-place-preserved-else-eq_u8 : goal.loop-place-preserved-else-eq_u8
loop-place-preserved-else-eq_u8 g c =
    let other : c.in-Ok.c ≢ c.args.delimiter = λ same. absurd (cc (c.if-eq_u8.ensures.equal.1 (c.requires, same))) in
    tokens_other c.ascii_stands_alone.ensures c.codes_never_overlap.ensures.utf8 c.in-Ok.c c.requires c.loop-place.invariant c.in-Some.ensures.steps c.in-Ok.is other

pub loop-place-preserved : goal.loop-place-preserved
loop-place-preserved g c = tokens_fault c.ascii_stands_alone.ensures c.requires c.loop-place.invariant c.in-Some.ensures.steps c.in_default.is

pub returns : goal.returns
returns g c = rw (shown_push _ _ _ c.in_ok-push-2.ensures.items) (tokens_all c.loop-place.invariant c.in-None.ensures.steps.none refl)
