use Rattle.std.proofs.Common.{arith}
use Rattle.recoding.proofs.FirstPieces.{BeginsChar-unit, BeginsChar-pair}
use Rattle.recoding.proofs.Forms.{is_utf16}
use Rattle.recoding.proofs.next_scalar.next_valid_of_utf16.Goals as goal

pub returns-in-Ok : goal.returns-in-Ok
returns-in-Ok g c =
    let h = c.in-Ok.ensures.decodes in
    BeginsChar-unit _ _ _ (is_utf16 _) _ (omega arith) c.type_inv.bytes h.0 (rw c.unit-first.ensures at h.1)

pub returns-in-Ok-from_utf16_tuple : goal.returns-in-Ok-from_utf16_tuple
returns-in-Ok-from_utf16_tuple g c =
    let h = c.in-Ok-from_utf16_tuple.ensures.decodes in
    BeginsChar-pair _ _ _ (is_utf16 _) _ c.if-bytes-lt4.false c.type_inv.bytes h.0 (rw (c.unit-first.ensures, c.unit-second.ensures) at h.1)
