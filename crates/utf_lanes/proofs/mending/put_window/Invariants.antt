use Rattle.std.proofs.Common.{◌-◌, ◌≡◌, length}
use Rattle.utf_lanes.proofs.MendedWindows.{InWindow}
use Rattle.utf_lanes.proofs.mending.put_window.Given as goal

abbrev pub invariant-loop-marks : goal.invariant-loop-marks
invariant-loop-marks g l = record {
  room : length l.made ≡ 512;
  window : InWindow g.M.Mending.subparts (g.M.Mending.shown l.by) l.bytes l.start l.window.len l.fn.done.len l.made l.marks l.done.read l.done.len l.done.replaced;
}

abbrev pub decreases-loop-marks : goal.decreases-loop-marks
decreases-loop-marks g l = length l.bytes - l.done.read
