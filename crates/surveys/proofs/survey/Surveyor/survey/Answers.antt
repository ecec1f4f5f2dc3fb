use Rattle.std.proofs.Common.{◌≡◌, ◌∙◌, ap}
use Rattle.surveys.specs.SurveyEnds.{first_four, head_len, tail_len}
use Rattle.surveys.proofs.Fronts.{last_three}
use Rattle.surveys.proofs.Surveying.{told}
use Rattle.surveys.proofs.survey.Surveyor.survey.Goals as goal

pub returns : goal.returns
returns c =
    let s = c.args.self.now in
    let front : c.first_four-front.result ≡ first_four s.front = c.first_four-front.ensures ∙ ap first_four c.bytes.ensures in
    told s _
    (record {
      len = c.whole.ensures;
      front = front;
      nul = c.whole-2.ensures;
      control = c.whole-3.ensures;
      utf8 = c.counts.ensures;
      utf16le = c.counts-2.ensures;
      utf16be = c.counts-3.ensures;
      head = c.head_len.ensures.len ∙ ap head_len front;
      tail = c.tail_len.ensures.len ∙ ap tail_len (last_three s.utf8.held c.bytes-held.result.now c.bytes-held.ensures s.some);
    })
