use Rattle.cuts.specs.Rooms.{bytes_left}
use Rattle.run_examples.proofs.rooms.count_calls.Given as goal

abbrev pub decreases-loop-place : goal.decreases-loop-place
decreases-loop-place l = bytes_left l.part l.place l.recoder
