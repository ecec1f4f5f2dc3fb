use Rattle.std.proofs.Common.{◌∙◌, sym}
use Rattle.utf_lanes.proofs.UnitPairs.{unit_at}
use Rattle.text_positions.proofs.line_feeds.unit_in_bytes.Goals as goal

pub returns : goal.returns
returns g c = c.unit.ensures ∙ sym (unit_at g.E.ByteOrder.HIGH_FIRST c.args.bytes.now c.args.place c.requires)
