use Rattle.std.proofs.Common.{arith}
use Rattle.utf_lanes.proofs.CompressRows.{kept_pairs, in_vector}
use Rattle.utf_lanes.proofs.text_units.compressed_pairs.Goals as goal

pub swizzle : goal.swizzle
swizzle c = in_vector c.compress_places-places.result (omega arith) c.compress_places-places.ensures.within

pub returns-clause-bytes : goal.returns-clause-bytes
returns-clause-bytes c = kept_pairs c.args.mask c.args.pairs c.compress_places-places.result (omega arith) c.compress_places-places.ensures
