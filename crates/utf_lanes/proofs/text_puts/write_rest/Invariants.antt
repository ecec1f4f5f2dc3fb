use Rattle.std.proofs.Common.{◌+◌, ◌-◌, ◌*◌, ◌≤◌, length}
use Rattle.utf_lanes.specs.UnitCodes.{Writes}
use Rattle.utf_lanes.specs.Utf8ToUtf16.{utf16_bytes}
use Rattle.utf_lanes.proofs.text_puts.write_rest.Given as goal

abbrev pub invariant-loop-place : goal.invariant-loop-place
invariant-loop-place g l = record {
  least : l.start ≤ l.place;
  within : l.place ≤ length l.text;
  fits : l.end + 2 * (length l.text - l.place) + 32 ≤ length l.room;
  written : Writes l.fn.room l.room l.at l.end (utf16_bytes g.E.ByteOrder.HIGH_FIRST l.text l.start (l.place - l.start));
}

abbrev pub decreases-loop-place : goal.decreases-loop-place
decreases-loop-place g l = length l.text - l.place
