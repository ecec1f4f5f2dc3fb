use Rattle.std.proofs.lemmas.List.{take_rest}
use Rattle.recoding.proofs.TextRuns.{PutsText-then}
use Rattle.recoding.proofs.recoder_runs.run_by_pieces.Goals as goal

pub pieces-preserved : goal.pieces-preserved
pieces-preserved g c = PutsText-then g.met.O.Output.appends_more c.pieces.invariant c.in-Ok.ensures.puts

pub returns-in-Err-clause-puts : goal.returns-in-Err-clause-puts
returns-in-Err-clause-puts g c = rw c.in-Err.ensures.kept c.pieces.invariant

pub returns-in-Err-clause-stops : goal.returns-in-Err-clause-stops
returns-in-Err-clause-stops g c = rw (take_rest c.args.bytes.now c.pieces.read) at c.in-Err.ensures.stops
