use Rattle.encode_unicode.proofs.HintLemmas.{BoundsPieces_quarter}
use Rattle.encode_unicode.proofs.decoding_iterators.Utf8CharDecoderIterator.size_hint.Goals as goal

pub returns-clause-bounds : goal.returns-clause-bounds
returns-clause-bounds c = rw (← c.self.view_is) (BoundsPieces_quarter _ _ _ c.self.invariant.0 c.self.invariant.1)
