use Rattle.std.proofs.Common.{◌-◌, ◌≤◌, length}
use Rattle.utf_lanes.specs.AsciiTexts.{AreAscii}
use Rattle.utf_lanes.proofs.ascii_texts.is_ascii_from.Given as goal

abbrev pub invariant-loop-place : goal.invariant-loop-place
invariant-loop-place l = (l.place ≤ length l.bytes) × AreAscii l.bytes 0 l.place

abbrev pub decreases-loop-place : goal.decreases-loop-place
decreases-loop-place l = length l.bytes - l.place
