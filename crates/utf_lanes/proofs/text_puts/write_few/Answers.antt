use Rattle.std.proofs.Common.{◌∙◌, ◌-◌, length, arith}
use Rattle.utf_lanes.proofs.TextUnits.{Writes-then, given_few}
use Rattle.utf_lanes.proofs.text_puts.write_few.Goals as goal

pub returns-clause-units : goal.returns-clause-units
returns-clause-units g c =
    let text = c.args.text.now in
    let written =
    Writes-then c.write_half-middle.ensures.written c.write_half.ensures.written
    (c.front_units.ensures.units ∙ given_few g.E.ByteOrder.HIGH_FIRST text _ (16 - length text) (omega arith) c.padded_text.ensures) in
    written.front
