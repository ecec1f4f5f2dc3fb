use Rattle.utf_lanes.proofs.UnitLanes.{chosen_lows_are, chosen_highs_are}
use Rattle.utf_lanes.proofs.text_units.long_halves.Goals as goal

pub returns : goal.returns
returns c =
    let short = c.short_halves.ensures in
    let leading = c.leading_halves.ensures in
    let trailing = c.trailing_halves-trailing_high.ensures in
    record {
      low = chosen_lows_are c.args.third c.args.second c.args.first c.args.here c.fits-third.0 c.fits-second.0 short.low short.high leading.low leading.high trailing;
      high = chosen_highs_are c.args.third c.args.second c.args.first c.args.here c.fits-third.0 c.fits-second.0 short.low short.high leading.low leading.high trailing;
    }
