use Rattle.std.proofs.Common.{◌<◌, ℕ, get_or}
use Rattle.utf_lanes.proofs.JudgedUnits.{characters_are_text, character_codes, WritesUnits-all}
use Rattle.utf_lanes.proofs.LaneLemmas.{lane_fits}
use Rattle.utf_lanes.proofs.UnitSlots.{firsts_of_units}
use Rattle.utf_lanes.proofs.utf16_blocks.write_long_units.Goals as goal

pub returns : goal.returns
returns g c =
    let low = c.args.low in
    let high = c.args.high in
    let fits : (k : ℕ) → k < g.row.N → get_or low k 0 < 256 = λ k lt. lane_fits low k c.fits-low lt in
    let none = c.requires.characters in
    let put = c.write_slots.ensures in
    let first = firsts_of_units low high c.first_bytes.result fits c.first_bytes.ensures in
    WritesUnits-all (characters_are_text low high fits none) put.written
    (character_codes low high fits none _ _ _ first.each c.middle_bytes-middle.ensures.each c.last_bytes-last.ensures.each) put.most
