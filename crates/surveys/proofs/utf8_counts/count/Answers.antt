use Rattle.std.proofs.Common.{◌≡◌, ◌+◌, ◌-◌, ◌<◌, ◌∙◌, sym, ap, length, drop, take, length-drop, subst, arith}
use Rattle.surveys.specs.SurveyCounts.{counted, nothing, plus}
use Rattle.surveys.proofs.Counting.{Fit, Fit-nothing, Fit-plus, counted-few, counted-rest, counted-skip, counted-stretch}
use Rattle.surveys.proofs.TextWindows.{text_slice}
use Rattle.surveys.proofs.utf8_counts.count.Goals as goal

pub loop-place-init : goal.loop-place-init
loop-place-init c = record {
  within = omega arith;
  same = ap (λ n. counted n c.args.bytes.now) c.new-counts.ensures;
  fit = subst Fit (sym c.new-counts.ensures) Fit-nothing;
  some = c.first_reach-reach.ensures.some;
  few = c.first_reach-reach.ensures.few;
}

pub loop-place-preserved-then-place-ascii : goal.loop-place-preserved-then-place-ascii
loop-place-preserved-then-place-ascii c =
    let next = c.ascii_end-ascii.ensures in
    record {
      within = omega (arith, next.within);
      same = counted-skip c.loop-place.counts c.args.bytes.now c.loop-place.place c.ascii_end-ascii.result c.if-place-ascii.true next.within next.ascii ∙ c.loop-place.invariant.same;
      fit = c.loop-place.invariant.fit;
      some = c.loop-place.invariant.some;
      few = c.loop-place.invariant.few;
    }

pub text_seen-requires-clause-text : goal.text_seen-requires-clause-text
text_seen-requires-clause-text c =
    let next = c.text_end-text.ensures in
    text_slice c.args.bytes.now c.loop-place.place c.text_end-text.result next.least next.within next.text

pub loop-place-preserved-then-text-place-ge-LEAST : goal.loop-place-preserved-then-text-place-ge-LEAST
loop-place-preserved-then-text-place-ge-LEAST c =
    let counts = c.loop-place.counts in
    let bytes = c.args.bytes.now in
    let place = c.loop-place.place in
    let text = c.text_end-text.result in
    let next = c.text_end-text.ensures in
    let n = text - place in
    let to : place + n ≡ text = omega (arith, next.least) in
    let width : text + 16 - place ≡ n + 16 = omega (arith, next.least) in
    let seen : c.text_seen.result ≡ counted nothing (take (n + 16) (drop place bytes)) = rw width at c.text_seen.ensures in
    let same : counted (plus counts c.text_seen.result) (drop text bytes) ≡ counted counts (drop place bytes)
    = rw to at (counted-stretch counts c.text_seen.result bytes place n (omega (arith, next.within, to)) seen) in
    record {
      within = omega (arith, next.within);
      same = ap (λ d. counted d (drop text bytes)) c.add.ensures ∙ same ∙ c.loop-place.invariant.same;
      fit = subst Fit (sym c.add.ensures) (Fit-plus counts c.text_seen.result);
      some = omega arith;
      few = omega arith;
    }

pub loop-place-preserved : goal.loop-place-preserved
loop-place-preserved c =
    let counts = c.loop-place.counts in
    let bytes = c.args.bytes.now in
    let next = c.each_seen-next.ensures in
    let added = c.add-else-text-place-ge-LEAST.ensures in
    record {
      within = next.within;
      same = ap (λ d. counted d (drop c.each_seen-next.result.1 bytes)) added
          ∙ counted-rest counts c.each_seen-next.result.0 (drop c.loop-place.place bytes) (drop c.each_seen-next.result.1 bytes) next.counts
          ∙ c.loop-place.invariant.same;
      fit = subst Fit (sym added) (Fit-plus counts c.each_seen-next.result.0);
      some = omega (arith, c.min-reach.ensures, c.loop-place.invariant.some);
      few = omega (arith, c.min-reach.ensures);
    }

pub returns : goal.returns
returns c =
    let few : length (drop c.loop-place.place c.args.bytes.now) < 17 = omega (arith, length-drop c.loop-place.place c.args.bytes.now) in
    sym (counted-few c.loop-place.counts (drop c.loop-place.place c.args.bytes.now) c.loop-place.invariant.fit few) ∙ c.loop-place.invariant.same
