use Rattle.cuts.specs.Rooms.{bytes_left}
use Rattle.run_examples.proofs.repair.feed_repaired_by_packets.Given as goal

abbrev pub decreases-loop-rest : goal.decreases-loop-rest
decreases-loop-rest g l = bytes_left l.rest 0 l.recoder
