use Rattle.std.proofs.Common.{◌++◌, ap₂, ◌∙◌}
use Rattle.utf_lanes.proofs.SlotLanes.{front_rows, back_rows}
use Rattle.utf_lanes.proofs.slots.wide_rows_of.Goals as goal

pub returns-clause-front : goal.returns-clause-front
returns-clause-front c =
    ap₂ (λ xs ys. xs ++ ys) c.compressed_rows.ensures.bytes c.compressed_rows-2.ensures.bytes
    ∙ front_rows c.args.fronts c.args.lasts c.low_pairs.result c.high_pairs.result c.fits-fronts.0 c.args.short c.low_pairs.ensures.front c.high_pairs.ensures.front

pub returns-clause-back : goal.returns-clause-back
returns-clause-back c =
    ap₂ (λ xs ys. xs ++ ys) c.compressed_rows.ensures.more c.compressed_rows-2.ensures.more
    ∙ back_rows c.args.fronts c.args.lasts c.low_pairs.result c.high_pairs.result c.fits-fronts.0 c.args.short c.low_pairs.ensures.back c.high_pairs.ensures.back
