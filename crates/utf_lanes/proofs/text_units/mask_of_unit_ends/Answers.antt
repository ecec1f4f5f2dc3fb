use Rattle.utf_lanes.proofs.UnitLanes.{giving_most, giving_bits}
use Rattle.utf_lanes.proofs.text_units.mask_of_unit_ends.Goals as goal

pub returns-clause-most : goal.returns-clause-most
returns-clause-most c = giving_most c.args.before c.args.here c.fits-before c.fits-here c.args.skipped

pub returns-clause-bits : goal.returns-clause-bits
returns-clause-bits c = giving_bits c.args.before c.args.here c.fits-before c.fits-here c.args.skipped c.requires.few
