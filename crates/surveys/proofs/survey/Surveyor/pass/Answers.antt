use Rattle.std.proofs.Common.{◌+◌, ◌++◌, ap, sym, arith, length, length-append, length-take}
use Rattle.surveys.specs.SurveyCounts.{wrapped}
use Rattle.surveys.specs.SurveyEnds.{is_control, is_nul}
use Rattle.surveys.proofs.FedRare.{none_on}
use Rattle.surveys.proofs.Fronts.{length-last}
use Rattle.surveys.proofs.OrdinaryBytes.{ascii_ordinary, ordinary_ascii, ordinary_uncontrolled}
use Rattle.surveys.proofs.Surveying.{fed}
use Rattle.surveys.proofs.UncontrolledBytes.{no_controls, no_nuls}
use Rattle.surveys.proofs.survey.Surveyor.pass.Goals as goal

pub pass-requires-clause-ascii : goal.pass-requires-clause-ascii
pass-requires-clause-ascii c = let part = c.args.part.now in ordinary_ascii part 0 (length part) c.requires.class

pub invariant_of-self-2 : goal.invariant_of-self-2
invariant_of-self-2 c =
    let s = c.args.self.now in
    let part = c.args.part.now in
    record {
      short = omega (arith, ap length c.front_with-self.ensures, length-take 4 (s.front ++ part));
      some = omega (arith, ap length c.pass.ensures.held, length-last 16 (s.utf8.held ++ part), length-append s.utf8.held part, s.some);
      few = omega (arith, ap length c.pass.ensures.held, length-last 16 (s.utf8.held ++ part));
    }

pub returns : goal.returns
returns c =
    let s = c.args.self.now in
    let part = c.args.part.now in
    let all = ordinary_uncontrolled part (ascii_ordinary part 0 (length part) c.requires.class) in
    fed s _ part
    (record {
      len = c.len_with-self.ensures;
      front = c.front_with-self.ensures;
      nul = λ later. ap (λ n. wrapped (s.nul + n)) (sym (none_on is_nul part later (no_nuls part all)));
      control = λ later. ap (λ n. wrapped (s.control + n)) (sym (none_on is_control part later (no_controls part all)));
      utf8 = c.pass.ensures.counts;
      held = c.pass.ensures.held;
      utf16le = c.pass-2.ensures;
      utf16be = c.pass-3.ensures;
    })
