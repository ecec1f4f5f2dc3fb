use Rattle.std.proofs.Common.{◌∙◌}
use Rattle.utf_lanes.proofs.TextUnits.{Writes-then, given_here}
use Rattle.utf_lanes.proofs.text_puts.write_block.Goals as goal

pub returns-clause-written : goal.returns-clause-written
returns-clause-written g c =
    Writes-then c.write_half-middle.ensures.written c.write_half.ensures.written
    (c.block_units.ensures.units ∙ given_here g.E.ByteOrder.HIGH_FIRST c.args.text.now c.args.place c.args.skipped _ c.requires.start)
