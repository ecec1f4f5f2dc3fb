use Rattle.utf_lanes.proofs.BlockUnits.{short_highs, short_lows}
use Rattle.utf_lanes.proofs.text_units.lane_halves.Goals as goal

pub returns-then-second-third-eq0-clause-low : goal.returns-then-second-third-eq0-clause-low
returns-then-second-third-eq0-clause-low c =
    short_lows c.args.third c.args.second c.fits-third.0 c.fits-second.0 c.if-second-third-eq0.true c.args.first c.args.here c.short_halves.ensures.low

pub returns-then-second-third-eq0-clause-high : goal.returns-then-second-third-eq0-clause-high
returns-then-second-third-eq0-clause-high c =
    short_highs c.args.third c.args.second c.fits-third.0 c.fits-second.0 c.if-second-third-eq0.true c.args.first c.args.here c.short_halves.ensures.high
