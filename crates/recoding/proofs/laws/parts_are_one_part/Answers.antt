use Rattle.recoding.proofs.FedParts.{nothing_is_fed, part_is_fed, fed_is_front, fed_is_recoded, two_parts_are_one, two_parts_are_recoded}
use Rattle.recoding.proofs.laws.parts_are_one_part.Goals as goal

pub returns : goal.returns
returns c = record { nothing = nothing_is_fed; part = part_is_fed; front = fed_is_front; whole = fed_is_recoded; two = two_parts_are_one; two_recoded = two_parts_are_recoded }
