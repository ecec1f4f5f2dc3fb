use Rattle.std.proofs.Common.{◌≡◌, ℕ, ◌+◌, ◌-◌, ◌<◌, ◌≤◌, length, drop}
use Rattle.recoding.specs.NextScalars.{utf16_form}
use Rattle.recoding.specs.Replacing.{FillsPlace, at_place}
use Rattle.recoding.specs.Strict.{PutsText}
use Rattle.recoding.specs.declared.form.Form.TheVariants.{Utf8}
use Rattle.utf_lanes.specs.BytePairs.{unit_number}
use Rattle.utf_lanes.specs.UnitCodes.{lane_unit, AreCharacters}
use Rattle.recoding.proofs.utf16_to_utf8.write_character_blocks.Given as goal

abbrev pub invariant-loop-read : goal.invariant-loop-read
invariant-loop-read g l = record {
  bytes : l.read + 64 ≤ length l.bytes;
  room : l.end + 112 ≤ length l.room;
  runs : PutsText FillsPlace (utf16_form g.E.ByteOrder.HIGH_FIRST) Utf8 l.bytes (at_place l.fn.room l.start) (at_place l.room l.end) l.read;
  units : (k : ℕ) → k < 32 → lane_unit l.low l.high k ≡ unit_number g.E.ByteOrder.HIGH_FIRST (drop l.read l.bytes) k;
  characters : AreCharacters 32 l.high;
}

abbrev pub decreases-loop-read : goal.decreases-loop-read
decreases-loop-read g l = length l.bytes - l.read
