use Rattle.recoding.proofs.PartLaws.{parts_are_recoded, parts_do_not_matter}
use Rattle.recoding.proofs.laws.parts_do_not_matter.Goals as goal

pub returns : goal.returns
returns c = record { recoded = parts_are_recoded; same = parts_do_not_matter }
