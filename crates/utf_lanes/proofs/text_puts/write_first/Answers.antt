use Rattle.std.proofs.Common.{◌∙◌, refl}
use Rattle.utf_lanes.proofs.TextUnits.{Writes-then, given_first}
use Rattle.utf_lanes.proofs.text_puts.write_first.Goals as goal

pub returns-clause-written : goal.returns-clause-written
returns-clause-written g c =
    Writes-then c.write_half-middle.ensures.written c.write_half.ensures.written
    (c.front_units.ensures.units ∙ given_first g.E.ByteOrder.HIGH_FIRST c.args.text.now _ refl)
