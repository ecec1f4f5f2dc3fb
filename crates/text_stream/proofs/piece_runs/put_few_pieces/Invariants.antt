use Rattle.std.proofs.Common.{◌+◌, ◌≤◌}
use Rattle.text_stream.specs.Located.{PutsKept}
use Rattle.text_stream.proofs.piece_runs.put_few_pieces.Given as goal

abbrev pub invariant-loop-count : goal.invariant-loop-count
invariant-loop-count g l = PutsKept g.K.Kept.kept g.P.FromPiece.made l.fn.form l.fn.bytes l.fn.room l.room l.fn.from l.at × (l.fn.from.read + l.count ≤ l.at.read)
