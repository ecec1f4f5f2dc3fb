use Rattle.utf_lanes.proofs.UnitLanes.{leading_lows_len, leading_lows_at, leading_highs_len, leading_highs_at}
use Rattle.utf_lanes.proofs.text_units.leading_halves.Goals as goal

pub returns : goal.returns
returns c =
    let first = c.args.first in
    let here = c.args.here in
    let p = c.fits-first.0 in
    let q = c.fits-here.0 in
    record {
      low = record { wide = leading_lows_len first here p q; each = leading_lows_at first here p q };
      high = record { wide = leading_highs_len first here p q c.args.second c.fits-second.0; each = leading_highs_at first here p q c.args.second c.fits-second.0 };
    }
