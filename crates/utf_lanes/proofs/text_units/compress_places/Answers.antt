use Rattle.utf_lanes.proofs.CompressRows.{pairs_len, pairs_right, is_row}
use Rattle.utf_lanes.specs.Utf8ToUtf16.{places_at}
use Rattle.utf_lanes.specs.declared.shuffles.TheConstants.{COMPRESS_PAIRS}
use Rattle.utf_lanes.proofs.text_units.compress_places.Goals as goal

pub returns : goal.returns
returns c = is_row COMPRESS_PAIRS places_at pairs_len 8 pairs_right c.args.mask c.requires
