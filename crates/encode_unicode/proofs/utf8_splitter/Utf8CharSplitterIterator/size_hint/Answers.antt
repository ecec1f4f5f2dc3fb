use Rattle.utf_base.specs.Code.{utf8}
use Rattle.utf_base.proofs.Utf8Code.{length_utf8}
use Rattle.utf_base.proofs.JoinedLengths.{some_utf8}
use Rattle.encode_unicode.proofs.Splits.{splits_hint}
use Rattle.encode_unicode.proofs.utf8_splitter.Utf8CharSplitterIterator.size_hint.Goals as goal

pub returns-clause-split : goal.returns-clause-split
returns-clause-split g c =
    rw (← c.self.view_is) (splits_hint utf8 4 some_utf8 length_utf8 _ _ c.size_hint.result _ _ (c.size_hint.ensures.lower, c.size_hint.ensures.upper) c.hint_of.ensures c.len.ensures)
