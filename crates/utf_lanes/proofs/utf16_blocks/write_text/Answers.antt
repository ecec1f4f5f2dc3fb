use Rattle.std.proofs.Common.{take, arith, refl, sym, subst}
use Rattle.std.proofs.lemmas.List.{append-nil}
use Rattle.utf_lanes.specs.Utf8ToUtf16.{concat_range}
use Rattle.utf_lanes.specs.UnitCodes.{lane_unit, AreText}
use Rattle.utf_lanes.proofs.utf16_blocks.write_text.Goals as goal

pub returns-then-count-eq0 : goal.returns-then-count-eq0
unfolding concat_range
returns-then-count-eq0 g c = record {
  most = omega arith;
  text = subst (AreText (lane_unit c.args.low c.args.high)) c.if-count-eq0.true c.paired_units-count.ensures.text;
  len = refl;
  bytes = sym (append-nil (take c.args.at c.args.room.now));
  short = omega arith;
  fits = omega arith;
}
