use Rattle.std.proofs.Common.{ap₂, ◌++◌, ◌∙◌}
use Rattle.utf_lanes.proofs.BlockUnits.{block_given, loaded_bits, loaded_highs, loaded_lows}
use Rattle.utf_lanes.proofs.text_units.lane_units.Goals as goal

pub returns-clause-units : goal.returns-clause-units
returns-clause-units g c xs place loaded =
    let mask = c.mask_of_unit_ends-mask in
    let skipped = c.args.skipped in
    let bits = loaded_bits loaded mask.result skipped mask.ensures.bits in
    let halves = c.lane_halves.ensures in
    ap₂ (λ x y. x ++ y) c.compressed_pairs.ensures.bytes c.compressed_pairs-2.ensures.bytes
    ∙ block_given g.E.ByteOrder.HIGH_FIRST xs place skipped loaded.start c.requires.few mask.result bits (loaded_lows loaded halves.low) (loaded_highs loaded halves.high) c.paired.result.0 c.paired.result.1
    c.paired.ensures.front c.paired.ensures.back
