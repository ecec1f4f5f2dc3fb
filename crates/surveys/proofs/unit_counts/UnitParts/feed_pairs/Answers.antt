use Rattle.std.proofs.Common.{◌+◌, ◌++◌, ◌∷◌, ◌∙◌, drop, get_or, arith, ap, sym, refl}
use Rattle.utf_lanes.specs.BytePairs.{unit_of}
use Rattle.surveys.specs.SurveyUnits.{SeesUnit, units_from, units_with}
use Rattle.surveys.proofs.FedUnits.{last_at, two_at, units_with-held, units_with-pair}
use Rattle.surveys.proofs.unit_counts.UnitParts.feed_pairs.Goals as goal

pub loop-place-preserved : goal.loop-place-preserved
loop-place-preserved g c =
    let hf = g.E.ByteOrder.HIGH_FIRST in
    let s = c.loop-place.self in
    let part = c.args.part.now in
    let place = c.loop-place.place in
    let sees : SeesUnit s (unit_of hf (get_or part place 0) (get_or part (place + 1) 0)) c.see.new.self = λ us. c.see.ensures.counts us ∙ ap (λ u. units_from s.counts s.before (u ∷ us)) c.unit.ensures in
    let odd = c.see.ensures.odd ∙ c.loop-place.invariant.odd in
    record {
      within = omega arith;
      odd = odd;
      same = λ later.
          units_with-pair hf s c.see.new.self (get_or part place 0) (get_or part (place + 1) 0) (drop (place + 2) part ++ later) c.loop-place.invariant.odd odd sees
          ∙ ap (λ z. units_with hf s (z ++ later)) (sym (two_at part place (omega arith))) ∙ c.loop-place.invariant.same later;
    }

pub returns-then-place-part : goal.returns-then-place-part
returns-then-place-part g c =
    let hf = g.E.ByteOrder.HIGH_FIRST in
    let s = c.loop-place.self in
    let part = c.args.part.now in
    let place = c.loop-place.place in
    λ later. units_with-held hf s _ (get_or part place 0) later c.loop-place.invariant.odd refl refl refl
    ∙ ap (λ z. units_with hf s (z ++ later)) (sym (last_at part place (omega arith))) ∙ c.loop-place.invariant.same later
