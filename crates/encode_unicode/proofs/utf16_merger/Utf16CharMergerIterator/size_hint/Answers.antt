use Rattle.std.proofs.Common.{◌∙◌, ap, lit<}
use Rattle.utf_base.specs.Code.{utf16}
use Rattle.utf_base.proofs.UnitLemmas.{utf16_finds}
use Rattle.utf_base.proofs.Utf16Code.{utf16_is_code, length_utf16}
use Rattle.encode_unicode.specs.Mergers.{hint_until, merge_hint}
use Rattle.encode_unicode.proofs.MergerHints.{merges_hint, divides_2}
use Rattle.encode_unicode.proofs.utf16_merger.Utf16CharMergerIterator.size_hint.Goals as goal

pub returns-clause-merged : goal.returns-clause-merged
returns-clause-merged g c =
    let source = c.hint_of_source-source.ensures ∙ ap (λ e. hint_until e c.size_hint.result) c.is_ended.ensures in
    let made = c.merged_hint.ensures ∙ ap (λ h. merge_hint 2 h c.hint_of_source-source.result) c.len.ensures.len ∙ ap (merge_hint 2 _) source in
    rw (← c.self.view_is) (merges_hint utf16 utf16_is_code utf16_finds 2 length_utf16 (lit< tt) divides_2 g.I.Iterator.remaining _ c.size_hint.result _ (c.size_hint.ensures.lower, c.size_hint.ensures.upper) made)
