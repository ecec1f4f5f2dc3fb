use Rattle.std.proofs.Common.{◌++◌, ap₂, ◌∙◌}
use Rattle.utf_lanes.proofs.SlotLanes.{short_halves}
use Rattle.utf_lanes.proofs.TextUnits.{Writes-then}
use Rattle.utf_lanes.proofs.slots.ThirtyTwoSlotWriter32.write_short.Goals as goal

pub returns-clause-written : goal.returns-clause-written
returns-clause-written c =
    Writes-then c.write_rows-half.ensures.written c.write_rows.ensures.written
    (ap₂ (λ xs ys. xs ++ ys) c.wide_rows_of.ensures.front c.wide_rows_of.ensures.back ∙ short_halves c.args.middle c.args.last)
