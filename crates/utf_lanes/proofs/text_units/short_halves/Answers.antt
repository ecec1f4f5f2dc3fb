use Rattle.utf_lanes.proofs.UnitLanes.{lows_len, lows_at, highs_len, highs_at}
use Rattle.utf_lanes.proofs.text_units.short_halves.Goals as goal

pub returns : goal.returns
returns c =
    let first = c.args.first in
    let here = c.args.here in
    let p = c.fits-first in
    let q = c.fits-here in
    record {
      low = record { wide = lows_len first here p q; each = lows_at first here p q };
      high = record { wide = highs_len first here p q c.args.second c.fits-second; each = highs_at first here p q c.args.second c.fits-second };
    }
