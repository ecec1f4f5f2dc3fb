use Rattle.text_stream.proofs.LocatedLemmas.{Puts-then}
use Rattle.text_stream.proofs.piece_runs.put_located_characters.Goals as goal

pub loop-at-init : goal.loop-at-init
loop-at-init g c = Puts-then c.put_many_characters-many.ensures c.put_characters_in_room-at.ensures

pub loop-at-preserved : goal.loop-at-preserved
loop-at-preserved g c = Puts-then c.loop-at.invariant c.in-Some.ensures.puts
