use Rattle.std.proofs.Common.{sym, ◌∙◌}
use Rattle.utf_lanes.proofs.UnitSlots.{high_first_units, low_first_units}
use Rattle.utf_lanes.proofs.unit_bytes.sixteen_halves.Goals as goal

pub returns-then-HIGH_FIRST-clause-units : goal.returns-then-HIGH_FIRST-clause-units
returns-then-HIGH_FIRST-clause-units g c = rw (sym c.HIGH_FIRST.ensures ∙ c.if-HIGH_FIRST.true) (high_first_units c.args.bytes.now c.requires)

pub returns-else-HIGH_FIRST-clause-units : goal.returns-else-HIGH_FIRST-clause-units
returns-else-HIGH_FIRST-clause-units g c = rw (sym c.HIGH_FIRST.ensures ∙ c.if-HIGH_FIRST.false) (low_first_units c.args.bytes.now c.requires)
