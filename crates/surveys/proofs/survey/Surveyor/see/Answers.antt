use Rattle.std.proofs.Common.{◌++◌, ap, arith, length, length-append, length-take}
use Rattle.surveys.specs.SurveyRare.{rare_with}
use Rattle.surveys.proofs.Fronts.{length-last}
use Rattle.surveys.proofs.Surveying.{fed}
use Rattle.surveys.proofs.survey.Surveyor.see.Goals as goal

pub invariant_of-self-2 : goal.invariant_of-self-2
invariant_of-self-2 c =
    let s = c.args.self.now in
    let part = c.args.part.now in
    record {
      short = omega (arith, ap length c.front_with-self.ensures, length-take 4 (s.front ++ part));
      some = omega (arith, ap length c.feed.ensures.held, length-last 16 (s.utf8.held ++ part), length-append s.utf8.held part, s.some);
      few = omega (arith, ap length c.feed.ensures.held, length-last 16 (s.utf8.held ++ part));
    }

pub returns : goal.returns
unfolding rare_with
returns c =
    fed c.args.self.now _ c.args.part.now
    (record {
      len = c.len_with-self.ensures;
      front = c.front_with-self.ensures;
      nul = λ later. ap (λ r. r.0) (c.feed-2.ensures later);
      control = λ later. ap (λ r. r.1) (c.feed-2.ensures later);
      utf8 = c.feed.ensures.counts;
      held = c.feed.ensures.held;
      utf16le = λ later. ap (λ r. r.2) (c.feed-2.ensures later);
      utf16be = λ later. ap (λ r. r.3) (c.feed-2.ensures later);
    })
