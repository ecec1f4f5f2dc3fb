use Rattle.std.proofs.Common.{length}
use Rattle.text_stream.specs.Located.{FinishesKept}
use Rattle.text_stream.proofs.decoder.Decoder.finish_kept.Given as goal

abbrev pub invariant-loop-form : goal.invariant-loop-form
invariant-loop-form g l = FinishesKept g.K.Kept.kept g.P.FromPiece.made l.fn.self l.fn.room l.room l.written l.self

abbrev pub decreases-loop-form : goal.decreases-loop-form
decreases-loop-form g l = length l.self.held
