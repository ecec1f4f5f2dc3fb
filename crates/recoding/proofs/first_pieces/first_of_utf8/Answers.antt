use Rattle.std.proofs.Common.{sym, ◌∙◌, ap, Some}
use Rattle.recoding.proofs.FirstPieces.{BeginsChar-utf8, BeginsFault-utf8, AwaitsKind-utf8}
use Rattle.recoding.proofs.first_pieces.first_of_utf8.Goals as goal

pub returns-in-Ok : goal.returns-in-Ok
returns-in-Ok c = BeginsChar-utf8 _ _ _ c.in-Ok.ensures.decodes

pub returns-in-TooFewBytes : goal.returns-in-TooFewBytes
returns-in-TooFewBytes c = AwaitsKind-utf8 _ (c.in-Err.ensures.decodes ∙ ap Some (sym c.kind.ensures ∙ c.in-TooFewBytes.is))

pub returns-in_default : goal.returns-in_default
returns-in_default c =
    rw c.kind.ensures (BeginsFault-utf8 _ _ c.in-Err.ensures.decodes (λ e. c.in_default.not-TooFewBytes (c.kind.ensures ∙ e)))
