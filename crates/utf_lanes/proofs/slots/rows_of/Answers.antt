use Rattle.std.proofs.Common.{◌++◌, ap₂, ◌∙◌, arith, ◌<◌}
use Rattle.utf_lanes.proofs.BlockUnits.{first_pairs, last_pairs, first_pairs_at, last_pairs_at}
use Rattle.utf_lanes.proofs.LaneLemmas.{reach_mask, reach_most}
use Rattle.utf_lanes.proofs.SlotLanes.{narrow_rows}
use Rattle.utf_lanes.proofs.slots.rows_of.Goals as goal

pub compressed_row-requires-2 : goal.compressed_row-requires-2
compressed_row-requires-2 c = let most : reach_mask 16 0x80 c.args.fronts < 65536 = reach_most 0x80 c.args.fronts (omega arith) c.fits-fronts.0 in omega arith

pub returns-clause-bytes : goal.returns-clause-bytes
returns-clause-bytes c =
    let fronts = c.args.fronts in
    let lasts = c.args.lasts in
    let p = c.fits-fronts.0 in
    let q = c.fits-lasts.0 in
    ap₂ (λ xs ys. xs ++ ys) c.compressed_row.ensures.bytes c.compressed_row-2.ensures.bytes
    ∙ narrow_rows fronts lasts (first_pairs fronts lasts p q) (last_pairs fronts lasts p q) p (first_pairs_at fronts lasts p q) (last_pairs_at fronts lasts p q) c.args.short
