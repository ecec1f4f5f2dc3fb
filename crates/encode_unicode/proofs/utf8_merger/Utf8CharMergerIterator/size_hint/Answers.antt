use Rattle.std.proofs.Common.{◌∙◌, ap, lit<}
use Rattle.utf_base.specs.Code.{utf8}
use Rattle.utf_base.proofs.FrontLemmas.{utf8_finds}
use Rattle.utf_base.proofs.Utf8Code.{utf8_is_code, length_utf8}
use Rattle.encode_unicode.specs.Mergers.{hint_until, merge_hint}
use Rattle.encode_unicode.proofs.MergerHints.{merges_hint, divides_4}
use Rattle.encode_unicode.proofs.utf8_merger.Utf8CharMergerIterator.size_hint.Goals as goal

pub returns-clause-merged : goal.returns-clause-merged
returns-clause-merged g c =
    let source = c.hint_of_source-source.ensures ∙ ap (λ e. hint_until e c.size_hint.result) c.is_ended.ensures in
    let made = c.merged_hint.ensures ∙ ap (λ h. merge_hint 4 h c.hint_of_source-source.result) c.len.ensures.len ∙ ap (merge_hint 4 _) source in
    rw (← c.self.view_is) (merges_hint utf8 utf8_is_code utf8_finds 4 length_utf8 (lit< tt) divides_4 g.I.Iterator.remaining _ c.size_hint.result _ (c.size_hint.ensures.lower, c.size_hint.ensures.upper) made)
