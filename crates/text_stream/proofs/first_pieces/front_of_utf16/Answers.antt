use Rattle.std.proofs.Common.{sym, ◌∙◌}
use Rattle.recoding.proofs.FirstPieces.{BeginsFault-trailing, BeginsFault-unmatched}
use Rattle.recoding.proofs.Forms.{is_utf16}
use Rattle.recoding.proofs.FrontBytes.{trailing_where_fault, unmatched_where_fault}
use Rattle.text_stream.proofs.FrontTold.{byte_last, byte_open, fault_begins, leading_last, leading_open, pair_begins, unit_begins}
use Rattle.text_stream.proofs.first_pieces.front_of_utf16.Goals as goal

pub returns-then-bytes-lt2-clause-waits : goal.returns-then-bytes-lt2-clause-waits
returns-then-bytes-lt2-clause-waits g c = byte_open _ _ (is_utf16 _) _ c.if-bytes-lt2.true

pub returns-then-bytes-lt2-clause-last : goal.returns-then-bytes-lt2-clause-last
returns-then-bytes-lt2-clause-last g c = λ _. byte_last _ _ (is_utf16 _) _ c.if-bytes-lt2.true

pub returns-in-Ok-clause-begins : goal.returns-in-Ok-clause-begins
returns-in-Ok-clause-begins g c =
    let h = c.in-Ok.ensures.decodes in
    unit_begins _ _ (is_utf16 _) _ _ c.if-bytes-lt2.false h.0 (rw c.unit-first.ensures at h.1)

pub returns-in-Err-clause-begins : goal.returns-in-Err-clause-begins
returns-in-Err-clause-begins g c =
    let plain = sym c.is_utf16_leading_surrogate.ensures ∙ c.if-not-is_utf16_leading_surrogate.true in
    let trailing = trailing_where_fault c.unit-first.result _ plain c.in-Err.ensures.decodes in
    rw c.fault_of_unit.ensures (fault_begins _ _ (is_utf16 _) _ _ (BeginsFault-trailing _ _ _ (is_utf16 _) c.if-bytes-lt2.false (rw c.unit-first.ensures at trailing)))

pub returns-then-bytes-lt4-clause-waits : goal.returns-then-bytes-lt4-clause-waits
returns-then-bytes-lt4-clause-waits g c =
    let leading = sym c.is_utf16_leading_surrogate.ensures ∙ c.if-not-is_utf16_leading_surrogate.false in
    λ _. leading_open _ _ (is_utf16 _) _ c.if-bytes-lt2.false c.if-bytes-lt4.true (rw c.unit-first.ensures at leading)

pub returns-then-bytes-lt4-clause-last : goal.returns-then-bytes-lt4-clause-last
returns-then-bytes-lt4-clause-last g c =
    let leading = sym c.is_utf16_leading_surrogate.ensures ∙ c.if-not-is_utf16_leading_surrogate.false in
    λ _. leading_last _ _ (is_utf16 _) _ c.if-bytes-lt2.false c.if-bytes-lt4.true (rw c.unit-first.ensures at leading)

pub returns-in-Ok-from_utf16_tuple-clause-begins : goal.returns-in-Ok-from_utf16_tuple-clause-begins
returns-in-Ok-from_utf16_tuple-clause-begins g c =
    let h = c.in-Ok-from_utf16_tuple.ensures.decodes in
    pair_begins _ _ (is_utf16 _) _ _ c.if-bytes-lt4.false h.0 (rw (c.unit-first.ensures, c.unit-second.ensures) at h.1)

pub returns-in-Err-from_utf16_tuple-clause-begins : goal.returns-in-Err-from_utf16_tuple-clause-begins
returns-in-Err-from_utf16_tuple-clause-begins g c =
    let leading = sym c.is_utf16_leading_surrogate.ensures ∙ c.if-not-is_utf16_leading_surrogate.false in
    let unmatched = unmatched_where_fault c.unit-first.result c.unit-second.result _ leading c.in-Err-from_utf16_tuple.ensures.decodes in
    rw c.fault_of_unit-in-Err-from_utf16_tuple.ensures
    (fault_begins _ _ (is_utf16 _) _ _ (BeginsFault-unmatched _ _ _ (is_utf16 _) c.if-bytes-lt4.false (rw c.unit-first.ensures at leading) (rw c.unit-second.ensures at unmatched)))
