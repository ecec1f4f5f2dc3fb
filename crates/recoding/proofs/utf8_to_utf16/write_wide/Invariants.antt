use Rattle.std.proofs.Common.{◌+◌, ◌-◌, ◌*◌, ◌≤◌, length}
use Rattle.utf_lanes.specs.UnitCodes.{Writes}
use Rattle.utf_lanes.specs.Utf8ToUtf16.{utf16_bytes}
use Rattle.recoding.proofs.utf8_to_utf16.write_wide.Given as goal

abbrev pub invariant-loop-place : goal.invariant-loop-place
invariant-loop-place g l = record {
  least : 16 ≤ l.place;
  within : l.place ≤ length l.text;
  written : Writes l.fn.room l.room l.at l.end (utf16_bytes g.E.ByteOrder.HIGH_FIRST l.text 16 (l.place - 16));
  most : l.end + 2 * (length l.text - l.place) ≤ l.at + 2 * (length l.text - 16);
}

abbrev pub decreases-loop-place : goal.decreases-loop-place
decreases-loop-place g l = length l.text - l.place
