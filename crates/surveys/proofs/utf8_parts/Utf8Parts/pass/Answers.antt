use Rattle.std.proofs.Common.{◌≡◌, ◌++◌, ◌∙◌, ap, sym, subst, take}
use Rattle.surveys.specs.SurveyCounts.{counted}
use Rattle.surveys.proofs.Counting.{Fit, Fit-plus}
use Rattle.surveys.proofs.FedWindows.{added, ascii_counted, fed_many, last_of-append}
use Rattle.surveys.proofs.utf8_parts.Utf8Parts.pass.Goals as goal

pub returns-clause-counts : goal.returns-clause-counts
returns-clause-counts c =
    let s = c.args.self.now in
    let part = c.args.part.now in
    let bytes : c.joined-joined.result ≡ s.held ++ take 16 part = c.joined-joined.ensures ∙ ap (λ z. z ++ take 16 part) c.bytes.ensures in
    let first : c.add.new.self ≡ counted s.counts (s.held ++ take 16 part)
    = c.add.ensures ∙ added s.counts c.count.result c.bytes-2.result.now c.count.ensures ∙ ap (counted s.counts) (c.bytes-2.ensures ∙ bytes) in
    let fit : Fit c.add.new.self = subst Fit (sym c.add.ensures) (Fit-plus s.counts c.count.result) in
    let counts : c.add.new.self ≡ counted (counted s.counts (s.held ++ take 16 part)) part = sym (ascii_counted c.add.new.self part fit c.requires.ascii) ∙ ap (λ n. counted n part) first in
    λ later. fed_many s _ part later c.requires.some counts c.last-self.ensures

pub returns-clause-held : goal.returns-clause-held
returns-clause-held c = c.last-self.ensures ∙ sym (last_of-append 16 c.args.self.now.held c.args.part.now c.requires.some)
