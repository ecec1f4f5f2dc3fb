use Rattle.std.proofs.Common.{◌-◌, length}
use Rattle.text_stream.specs.Located.{PutsKept}
use Rattle.text_stream.proofs.piece_runs.put_run.Given as goal

abbrev pub invariant-loop-at : goal.invariant-loop-at
invariant-loop-at g l = PutsKept g.K.Kept.kept g.P.FromPiece.made l.fn.form l.fn.bytes l.fn.room l.room l.fn.from l.at

abbrev pub decreases-loop-at : goal.decreases-loop-at
decreases-loop-at g l = length l.fn.bytes - l.at.read
