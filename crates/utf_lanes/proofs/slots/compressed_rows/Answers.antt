use Rattle.std.proofs.Common.{take, ap, ◌∙◌, rules}
use Rattle.utf_lanes.proofs.CompressRows.{front_row, back_row}
use Rattle.utf_lanes.proofs.WideShuffles.{in_halves}
use Rattle.utf_lanes.proofs.slots.compressed_rows.Goals as goal

pub swizzle : goal.swizzle
swizzle c = rw c.joined-both.ensures (in_halves c.args.lanes c.compress_row-len.result.0 c.compress_row-more_len.result.0 (search rules) (search rules) c.compress_row-len.ensures.row.within c.compress_row-more_len.ensures.row.within)

pub returns : goal.returns
returns c =
    let row = c.compress_row-len.ensures.row in
    let more = c.compress_row-more_len.ensures.row in
    let lanes = c.args.lanes in
    let halves = c.halves.ensures in
    record {
      bytes = ap (take c.compress_row-len.result.1) halves.first ∙ rw c.joined-both.ensures (front_row c.args.short lanes (search rules) (search rules) row more);
      more = ap (take c.compress_row-more_len.result.1) halves.second ∙ rw c.joined-both.ensures (back_row c.args.short lanes (search rules) (search rules) row more);
      most = c.compress_row-len.ensures.most;
      most_more = c.compress_row-more_len.ensures.most;
    }
