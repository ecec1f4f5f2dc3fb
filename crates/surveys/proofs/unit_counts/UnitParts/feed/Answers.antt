use Rattle.std.proofs.Common.{◌<◌, ◌++◌, ◌∷◌, ◌∙◌, drop, get_or, length, arith, ap, sym}
use Rattle.utf_lanes.specs.BytePairs.{unit_of}
use Rattle.surveys.specs.SurveyUnits.{SeesUnit, units_from, units_with}
use Rattle.surveys.proofs.FedUnits.{one_at, rest_of, units_with-odd}
use Rattle.surveys.proofs.unit_counts.UnitParts.feed.Goals as goal

pub returns-in-Some : goal.returns-in-Some
returns-in-Some g c =
    let hf = g.E.ByteOrder.HIGH_FIRST in
    let s = c.args.self.now in
    let part = c.args.part.now in
    let some : 0 < length part = grind (arith, c.is_empty.ensures, c.if-is_empty.ensures) in
    let sees : SeesUnit s (unit_of hf c.in-Some.first (get_or part 0 0)) c.see.new.self = λ us. c.see.ensures.counts us ∙ ap (λ u. units_from s.counts s.before (u ∷ us)) c.unit.ensures in
    λ later. c.feed_pairs-in-Some.ensures later ∙ ap (λ z. units_with hf c.see.new.self (z ++ later)) (rest_of part) ∙ units_with-odd hf s c.see.new.self c.in-Some.first (get_or part 0 0) (drop 1 part ++ later) c.in-Some.is c.see.ensures.odd sees
    ∙ ap (λ z. units_with hf s (z ++ later)) (sym (one_at part 0 some))
