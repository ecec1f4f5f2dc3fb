use Rattle.std.proofs.Common.{◌≡◌, ◌+◌, ◌-◌, ◌≤◌, length, length-take, take, drop, subst, arith}
use Rattle.surveys.specs.SurveyRare.{FeedsRare}
use Rattle.surveys.proofs.FedRare.{fed_on}
use Rattle.surveys.proofs.rare_counts.RareCounts.feed.Goals as goal

pub loop-place-preserved-then-place-end : goal.loop-place-preserved-then-place-end
loop-place-preserved-then-place-end c =
    let old = c.args.self.now in
    let part = c.args.part.now in
    let place = c.loop-place.place in
    let end = c.class_end-end.result in
    let to : place + (end - place) ≡ end = omega (arith, c.class_end-end.ensures.least) in
    record {
      within = c.class_end-end.ensures.within;
      feeds = subst (λ k. FeedsRare old (take k part) c.pass.new.self) to (fed_on old c.loop-place.self c.pass.new.self part place (end - place) c.loop-place.invariant.feeds c.pass.ensures);
    }

pub pass_unpaired-requires-clause-class : goal.pass_unpaired-requires-clause-class
pass_unpaired-requires-clause-class c =
    let place = c.loop-place.place in
    let rest = drop place c.args.part.now in
    let width : place + 3074 - place ≡ 3074 = omega arith in
    let long : length (take 3074 rest) ≤ 3074 = omega (arith, length-take 3074 rest) in
    rw width (λ k ge lt. c.has_uncontrolled.ensures.class c.if-has_uncontrolled.true k ge (omega arith))

pub loop-place-preserved-then-has_uncontrolled : goal.loop-place-preserved-then-has_uncontrolled
loop-place-preserved-then-has_uncontrolled c =
    let place = c.loop-place.place in
    let width : place + 3074 - place ≡ 3074 = omega arith in
    record {
      within = c.has_uncontrolled.ensures.within c.if-has_uncontrolled.true;
      feeds = fed_on c.args.self.now c.loop-place.self c.pass_unpaired.new.self c.args.part.now place 3074 c.loop-place.invariant.feeds (rw width at c.pass_unpaired.ensures);
    }

pub loop-place-preserved : goal.loop-place-preserved
loop-place-preserved c =
    let part = c.args.part.now in
    let place = c.loop-place.place in
    let n = c.min-len.result in
    let width : place + n - place ≡ n = omega arith in
    record {
      within = omega (arith, c.min-len.ensures, c.loop-place.invariant.within);
      feeds = fed_on c.args.self.now c.loop-place.self c.see.new.self part place n c.loop-place.invariant.feeds (rw width at c.see.ensures);
    }
