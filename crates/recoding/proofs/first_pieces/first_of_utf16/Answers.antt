use Rattle.std.proofs.Common.{sym, ◌∙◌}
use Rattle.recoding.proofs.FirstPieces.{BeginsChar-unit, BeginsChar-pair, BeginsFault-trailing, BeginsFault-unmatched, AwaitsKind-byte, AwaitsKind-leading}
use Rattle.recoding.proofs.Forms.{is_utf16}
use Rattle.recoding.proofs.FrontBytes.{trailing_where_fault, unmatched_where_fault}
use Rattle.recoding.proofs.first_pieces.first_of_utf16.Goals as goal

pub returns-then-bytes-lt2 : goal.returns-then-bytes-lt2
returns-then-bytes-lt2 g c = AwaitsKind-byte _ _ _ (is_utf16 _) c.if-bytes-lt2.true

pub returns-in-Ok : goal.returns-in-Ok
returns-in-Ok g c =
    let h = c.in-Ok.ensures.decodes in
    BeginsChar-unit _ _ _ (is_utf16 _) _ c.if-bytes-lt2.false c.type_inv.bytes h.0 (rw c.unit-first.ensures at h.1)

pub returns-in-Err : goal.returns-in-Err
returns-in-Err g c =
    let plain = sym c.is_utf16_leading_surrogate.ensures ∙ c.if-not-is_utf16_leading_surrogate.true in
    let trailing = trailing_where_fault c.unit-first.result _ plain c.in-Err.ensures.decodes in
    rw c.unit_fault.ensures (BeginsFault-trailing _ _ _ (is_utf16 _) c.if-bytes-lt2.false (rw c.unit-first.ensures at trailing))

pub returns-then-bytes-lt4 : goal.returns-then-bytes-lt4
returns-then-bytes-lt4 g c =
    let leading = sym c.is_utf16_leading_surrogate.ensures ∙ c.if-not-is_utf16_leading_surrogate.false in
    AwaitsKind-leading _ _ _ (is_utf16 _) c.if-bytes-lt2.false c.if-bytes-lt4.true (rw c.unit-first.ensures at leading)

pub returns-in-Ok-from_utf16_tuple : goal.returns-in-Ok-from_utf16_tuple
returns-in-Ok-from_utf16_tuple g c =
    let h = c.in-Ok-from_utf16_tuple.ensures.decodes in
    BeginsChar-pair _ _ _ (is_utf16 _) _ c.if-bytes-lt4.false c.type_inv.bytes h.0 (rw (c.unit-first.ensures, c.unit-second.ensures) at h.1)

pub returns-in-Err-from_utf16_tuple : goal.returns-in-Err-from_utf16_tuple
returns-in-Err-from_utf16_tuple g c =
    let leading = sym c.is_utf16_leading_surrogate.ensures ∙ c.if-not-is_utf16_leading_surrogate.false in
    let unmatched = unmatched_where_fault c.unit-first.result c.unit-second.result _ leading c.in-Err-from_utf16_tuple.ensures.decodes in
    rw c.unit_fault-in-Err-from_utf16_tuple.ensures
    (BeginsFault-unmatched _ _ _ (is_utf16 _) c.if-bytes-lt4.false (rw c.unit-first.ensures at leading) (rw c.unit-second.ensures at unmatched))
