use Rattle.std.proofs.Common.{◌≡◌, ◌+◌, ◌-◌, take, subst, arith}
use Rattle.surveys.specs.Surveys.{Surveys}
use Rattle.surveys.proofs.Surveying.{surveyed_on}
use Rattle.surveys.proofs.survey.Surveyor.feed.Goals as goal

pub loop-place-preserved-then-place-end : goal.loop-place-preserved-then-place-end
loop-place-preserved-then-place-end c =
    let old = c.args.self.now in
    let part = c.args.part.now in
    let place = c.loop-place.place in
    let end = c.class_end-end.result in
    let to : place + (end - place) ≡ end = omega (arith, c.class_end-end.ensures.least) in
    record {
      within = c.class_end-end.ensures.within;
      surveys = subst (λ k. Surveys old (take k part) c.pass.new.self) to (surveyed_on old c.loop-place.self c.pass.new.self part place (end - place) c.loop-place.invariant.surveys c.pass.ensures);
    }

pub loop-place-preserved : goal.loop-place-preserved
loop-place-preserved c =
    let part = c.args.part.now in
    let place = c.loop-place.place in
    let n = c.min-len.result in
    let width : place + n - place ≡ n = omega arith in
    record {
      within = omega (arith, c.min-len.ensures, c.loop-place.invariant.within);
      surveys = surveyed_on c.args.self.now c.loop-place.self c.see.new.self part place n c.loop-place.invariant.surveys (rw width at c.see.ensures);
    }
