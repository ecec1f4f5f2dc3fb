use Rattle.std.proofs.Common.{◌≡◌, get_or, drop, nat_eq, ap, sym, ◌∙◌}
use Rattle.std.specs.Prelude.{◌≢◌}
use Rattle.cuts.proofs.ForwardRuns.{IsRunSoFar-push}
use Rattle.run_examples.specs.Strings.{string_end}
use Rattle.run_examples.proofs.StringLemmas.{pass_escaped, pass_plain, passes}
use Rattle.run_examples.proofs.strings.closing_quote.Goals as goal

pub loop-place-preserved-then-escaped : goal.loop-place-preserved-then-escaped
loop-place-preserved-then-escaped c =
    let run = c.loop-place.invariant.run in
    let front = c.loop-place.place-iterator.front in
    let passed = passes c.ascii_stands_alone.ensures c.pieces_never_overlap.ensures.utf8 run c.in-Some.ensures.steps in
    record {
      run = IsRunSoFar-push run c.in-Some.ensures.steps;
      left = c.loop-place.invariant.left ∙ ap (λ b. string_end b front (drop front c.args.bytes.now)) c.if-escaped.true ∙ pass_escaped _ _ _ _ passed;
    }

pub loop-place-preserved : goal.loop-place-preserved
loop-place-preserved c =
    let run = c.loop-place.invariant.run in
    let bytes = c.args.bytes.now in
    let front = c.loop-place.place-iterator.front in
    let later = c.next.new.self.front in
    let step = c.in-Some.ensures.steps in
    let passed = passes c.ascii_stands_alone.ensures c.pieces_never_overlap.ensures.utf8 run step in
    let at : get_or bytes c.in-Some.place 0 ≡ get_or bytes front 0 = ap (λ p. get_or bytes p 0) step.place in
    let plain : get_or bytes front 0 ≢ 0x22 = λ e. c.if-byte-eq34.false (at ∙ e) in
    record {
      run = IsRunSoFar-push run step;
      left = c.loop-place.invariant.left ∙ ap (λ b. string_end b front (drop front bytes)) c.if-escaped.false ∙ pass_plain _ _ _ _ passed plain
          ∙ ap (λ b. string_end (nat_eq b 0x5C) later (drop later bytes)) (sym at);
    }
