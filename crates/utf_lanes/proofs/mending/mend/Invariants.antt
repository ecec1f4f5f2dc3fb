use Rattle.std.proofs.Common.{◌-◌, ◌≤◌, ◌≡◌, length}
use Rattle.utf_base.specs.Code.{utf8}
use Rattle.utf_base.specs.Piece.{Inside}
use Rattle.utf_lanes.specs.Mending.{MendsFront}
use Rattle.utf_lanes.proofs.mending.mend.Given as goal

abbrev pub invariant-loop-calm : goal.invariant-loop-calm
invariant-loop-calm g l = record {
  room : length l.made ≡ 512;
  front : MendsFront g.M.Mending.subparts (g.M.Mending.shown l.by) l.bytes l.made l.done.read l.done.len l.done.replaced;
  outside : Inside utf8 l.bytes l.done.read → ⊥;
  left : l.done.read ≤ length l.bytes - 3;
}

abbrev pub decreases-loop-calm : goal.decreases-loop-calm
decreases-loop-calm g l = length l.bytes - l.done.read
