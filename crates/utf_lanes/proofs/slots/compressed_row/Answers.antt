use Rattle.std.proofs.Common.{rules}
use Rattle.utf_lanes.proofs.CompressRows.{kept_row, in_vector}
use Rattle.utf_lanes.proofs.slots.compressed_row.Goals as goal

pub swizzle : goal.swizzle
swizzle c = in_vector c.compress_row-len.result.0 (search rules) c.compress_row-len.ensures.row.within

pub returns : goal.returns
returns c = record {
  bytes = kept_row c.args.short c.args.mask c.compress_row-len.result.1 c.args.lanes c.compress_row-len.result.0 (search rules) c.compress_row-len.ensures.row;
  most = c.compress_row-len.ensures.most;
}
