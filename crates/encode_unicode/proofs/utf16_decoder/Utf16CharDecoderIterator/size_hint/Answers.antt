use Rattle.encode_unicode.proofs.HintLemmas.{BoundsUnitPieces_half}
use Rattle.encode_unicode.proofs.utf16_decoder.Utf16CharDecoderIterator.size_hint.Goals as goal

pub returns-clause-bounds : goal.returns-clause-bounds
returns-clause-bounds c = rw (← c.self.view_is) (BoundsUnitPieces_half _ _ _ c.self.invariant.0 c.self.invariant.1)
