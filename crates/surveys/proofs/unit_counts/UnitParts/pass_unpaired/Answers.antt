use Rattle.std.proofs.Common.{◌∙◌, ◌∷◌, ap, refl}
use Rattle.surveys.specs.SurveyUnits.{units_from}
use Rattle.surveys.proofs.UnpairedUnits.{fed_unpaired}
use Rattle.surveys.proofs.unit_counts.UnitParts.pass_unpaired.Goals as goal

pub returns : goal.returns
returns g c =
    let s = c.args.self.now in
    fed_unpaired g.E.ByteOrder.HIGH_FIRST s c.see.new.self _ c.args.part.now c.args.unpaired c.requires.begins (c.see.ensures.odd ∙ c.requires.begins) c.requires.some c.requires.even c.requires.class
    c.requires.unpaired (λ us. c.see.ensures.counts us ∙ ap (λ u. units_from s.counts s.before (u ∷ us)) c.unit.ensures) (c.see.ensures.before ∙ c.unit.ensures) refl refl c.sum-self.ensures
    c.unit-self.ensures
