use Rattle.text_stream.proofs.KeptPieces.{fault_where_kept}
use Rattle.text_stream.proofs.decoder.Decoder.feed_faults.Goals as goal

pub returns-clause-full : goal.returns-clause-full
returns-clause-full g c is_full = let none = c.feed_kept.ensures.full is_full in (none.0, fault_where_kept _ _ none.1)
