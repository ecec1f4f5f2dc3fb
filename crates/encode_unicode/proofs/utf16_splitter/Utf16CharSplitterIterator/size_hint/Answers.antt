use Rattle.utf_base.specs.Code.{utf16}
use Rattle.utf_base.proofs.Utf16Code.{length_utf16}
use Rattle.utf_base.proofs.JoinedLengths.{some_utf16}
use Rattle.encode_unicode.proofs.Splits.{splits_hint}
use Rattle.encode_unicode.proofs.utf16_splitter.Utf16CharSplitterIterator.size_hint.Goals as goal

pub returns-clause-split : goal.returns-clause-split
returns-clause-split g c =
    rw (← c.self.view_is) (splits_hint utf16 2 some_utf16 length_utf16 _ _ c.size_hint.result _ _ (c.size_hint.ensures.lower, c.size_hint.ensures.upper) c.hint_of.ensures c.len.ensures)
