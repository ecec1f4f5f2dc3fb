use Rattle.std.proofs.Common.{◌<◌, ℕ, get_or}
use Rattle.utf_lanes.proofs.JudgedUnits.{short_text, short_codes, WritesUnits-all}
use Rattle.utf_lanes.proofs.LaneLemmas.{lane_fits}
use Rattle.utf_lanes.proofs.utf16_blocks.write_short_units.Goals as goal

pub returns : goal.returns
returns g c =
    let low = c.args.low in
    let high = c.args.high in
    let fits : (k : ℕ) → k < g.row.N → get_or low k 0 < 256 = λ k lt. lane_fits low k c.fits-low lt in
    let short = c.requires.short in
    let put = c.write_short.ensures in
    WritesUnits-all (short_text low high fits short) put.written (short_codes low high fits short _ _ c.middle_bytes.ensures.each c.last_bytes.ensures.each) put.most
