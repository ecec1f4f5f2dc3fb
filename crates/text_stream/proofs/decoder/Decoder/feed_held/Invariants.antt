use Rattle.std.proofs.Common.{◌+◌, ◌-◌, length}
use Rattle.text_stream.specs.Located.{FeedsKept}
use Rattle.text_stream.proofs.decoder.Decoder.feed_held.Given as goal

abbrev pub invariant-loop-form : goal.invariant-loop-form
invariant-loop-form g l = FeedsKept g.K.Kept.kept g.P.FromPiece.made l.fn.self l.part l.fn.room l.room l.read l.written l.self

abbrev pub decreases-loop-form : goal.decreases-loop-form
decreases-loop-form g l = length l.self.held + (length l.part - l.read)
