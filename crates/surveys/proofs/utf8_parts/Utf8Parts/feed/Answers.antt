use Rattle.std.proofs.Common.{◌≡◌, ◌≤◌, ◌++◌, ◌∙◌, ap, sym, take, length, arith}
use Rattle.surveys.specs.SurveyCounts.{counted}
use Rattle.surveys.specs.SurveyParts.{last_of}
use Rattle.surveys.proofs.FedWindows.{added, all_taken, fed_few, fed_many, front_taken, last_of-append}
use Rattle.surveys.proofs.utf8_parts.Utf8Parts.feed.Goals as goal

pub returns-then-part-le16-clause-counts : goal.returns-then-part-le16-clause-counts
returns-then-part-le16-clause-counts c =
    let s = c.args.self.now in
    let part = c.args.part.now in
    let bytes : c.joined-joined.result ≡ s.held ++ part
    = c.joined-joined.ensures ∙ ap (λ z. z ++ take c.min.result part) c.bytes.ensures ∙ ap (λ z. s.held ++ z) (front_taken part c.min.result c.min.ensures ∙ all_taken part (omega arith)) in
    let counts : c.add.new.self ≡ counted s.counts (s.held ++ part)
    = c.add.ensures ∙ added s.counts c.count.result c.bytes-2.result.now c.count.ensures ∙ ap (counted s.counts) (c.bytes-2.ensures ∙ bytes) in
    let held : c.last-self.result ≡ last_of 16 (s.held ++ part) = c.last-self.ensures ∙ ap (last_of 16) (c.bytes-then-part-le16.ensures ∙ bytes) in
    λ later. fed_few s _ part later counts held

pub returns-else-part-le16-clause-counts : goal.returns-else-part-le16-clause-counts
returns-else-part-le16-clause-counts c =
    let s = c.args.self.now in
    let part = c.args.part.now in
    let bytes : c.joined-joined.result ≡ s.held ++ take 16 part
    = c.joined-joined.ensures ∙ ap (λ z. z ++ take c.min.result part) c.bytes.ensures ∙ ap (λ z. s.held ++ z) (front_taken part c.min.result c.min.ensures) in
    let first : c.add.new.self ≡ counted s.counts (s.held ++ take 16 part)
    = c.add.ensures ∙ added s.counts c.count.result c.bytes-2.result.now c.count.ensures ∙ ap (counted s.counts) (c.bytes-2.ensures ∙ bytes) in
    let counts : c.add-else-part-le16.new.self ≡ counted (counted s.counts (s.held ++ take 16 part)) part
    = c.add-else-part-le16.ensures ∙ added c.add.new.self c.count-else-part-le16.result part c.count-else-part-le16.ensures ∙ ap (λ n. counted n part) first in
    let many : 16 ≤ length part = omega arith in
    λ later. fed_many s _ part later many counts c.last-self-else-part-le16.ensures

pub returns-else-part-le16-clause-held : goal.returns-else-part-le16-clause-held
returns-else-part-le16-clause-held c =
    let many : 16 ≤ length c.args.part.now = omega arith in
    c.last-self-else-part-le16.ensures ∙ sym (last_of-append 16 c.args.self.now.held c.args.part.now many)
