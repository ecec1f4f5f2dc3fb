use Rattle.recoding.proofs.HeldFronts.{fronts_are_undecided, lacking_text, lacking_units, lacking_unit}
use Rattle.recoding.proofs.laws.held_is_undecided.Goals as goal

pub returns : goal.returns
returns c = record { fronts = fronts_are_undecided; text = lacking_text; units = lacking_units; unit = lacking_unit }
